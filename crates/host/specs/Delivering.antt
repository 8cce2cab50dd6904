-- A caption that is given to an inserter.
use Rattle.std.specs.Prelude.{◌≡◌, ℕ, ◌+◌, ◌*◌, ◌<◌, ◌≤◌, List, ◌++◌, length, None, Ok, Err, Result, ◌≢◌}
use Rattle.inserter.specs.Meaning.{Meaning, resting}
use Rattle.script.specs.Encoding.{caption_cells}
use Rattle.host.specs.declared.play.Played.{Played}
use Rattle.host.specs.declared.deliver.Undelivered.{Undelivered}
use Rattle.host.specs.declared.deliver.Undelivered.TheVariants.{NoRoom, NoMemory}

-- all of the text arrives on its channel, and nothing anywhere else
pub record Arrives (delay channel : ℕ) (text : List ℕ) (m m' : Meaning) (p : Played) : Type 0 where
  pub room : length text ≤ m.free channel
  pub here : m'.held channel ≡ m.held channel ++ text
  pub elsewhere : (k : ℕ) → (k ≢ channel) → m'.held k ≡ m.held k
  pub offers : m'.offers ≡ m.offers
  -- the inserter is left at rest, on the channel and without a count
  pub cursor : m'.cursor ≡ record { channel = channel; count = None }
  pub front : m'.front ≡ resting delay
  pub cells : p.taken ≡ length (caption_cells channel text)
  pub looks : p.looks ≡ p.taken * (delay + 2)

-- or all stays, for want of room or of memory
abbrev pub Delivers : ℕ → ℕ → List ℕ → Meaning → Result Played Undelivered → Meaning → Type 0
Delivers d c text m (Ok p) m' = Arrives d c text m m' p
Delivers d c text m (Err NoRoom) m' = (m.free c < length text) × (m' ≡ m)
Delivers d c text m (Err NoMemory) m' = (length text ≤ m.free c) × (m' ≡ m)
