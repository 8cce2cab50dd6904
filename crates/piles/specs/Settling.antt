-- Two looks at a new inserter.
use Rattle.std.specs.Prelude.{◌≡◌, ℕ, List}
use Rattle.cell.specs.declared.cells.Cell.{Cell}
use Rattle.cell.specs.declared.lines.Shown.{Shown}
use Rattle.cell.specs.declared.lines.Answer.{Answer}
use Rattle.inserter.specs.Meaning.{Meaning, New}
use Rattle.inserter.specs.Rules.{LookedTwice}
use Rattle.patch.specs.Patched.{patched}

-- the answers are those of an inserter that is new and offers these cells, where `seen` says what is seen of the make below
pub record Settled (delay : ℕ) (seen : Meaning → Meaning) (offers : List Cell) (shown : Shown) (r r' : Answer) : Type 0 where
  pub below : Meaning
  pub after : Meaning
  pub new : New delay (seen below)
  pub new_below : New delay below
  pub offered : below.offers ≡ offers
  pub looked : LookedTwice delay (seen below) shown.lines shown.byte after r r'

-- a make with nothing over it
abbrev pub as_it_is : Meaning → Meaning
as_it_is m = m

-- two patches over it, by their entries
abbrev pub through : List ℕ → List ℕ → Meaning → Meaning
through outer inner m = patched outer (patched inner m)
