-- A line of the script that is played to an inserter.
use Rattle.std.specs.Prelude.{◌≡◌, ℕ, ◌<◌, List, length, Ok, Err, Result}
use Rattle.inserter.specs.Meaning.{Meaning}
use Rattle.script.specs.Lines.{parsed}
use Rattle.host.specs.declared.line.NotSent.{NotSent}
use Rattle.host.specs.declared.line.NotSent.TheVariants.{Empty, Bad, Undelivered}
use Rattle.host.specs.declared.play.Played.{Played}
use Rattle.host.specs.Delivering.{Delivers}

-- what became of a line
abbrev pub Outcome : Type 0
Outcome = Result Played NotSent

-- an empty line is told of as empty, and any other that is no caption as bad: both change nothing; a caption is delivered whole on
-- its channel, or not at all
abbrev pub Lined : ℕ → List ℕ → Meaning → Outcome → Meaning → Type 0
Lined d line m (Err Empty) m' = (length line ≡ 0) × (m' ≡ m)
Lined d line m (Err (Bad e)) m' = (0 < length line) × (parsed line ≡ Err e) × (m' ≡ m)
Lined d line m (Err (Undelivered e)) m' = (c : ℕ) × (text : List ℕ) × (parsed line ≡ Ok (c, text)) × Delivers d c text m (Err e) m'
Lined d line m (Ok p) m' = (c : ℕ) × (text : List ℕ) × (parsed line ≡ Ok (c, text)) × Delivers d c text m (Ok p) m'
