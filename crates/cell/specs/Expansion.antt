-- Expansion: the bytes that cells coming back stand for. It has no channels, so an address is given out like a byte.
use Rattle.std.specs.Prelude.{ℕ, ◌+◌, List, [], ◌∷◌, ◌++◌, replicate}
use Rattle.cell.specs.declared.cells.Cell.{Cell}
use Rattle.cell.specs.declared.cells.Kind.{Kind}
use Rattle.cell.specs.declared.cells.Kind.TheVariants.{Byte, Count, Address}
use Rattle.cell.specs.Cells.{kind_of}

-- what one cell gives out with a count w in hand; a count of 0 is as good as none
abbrev pub given_by : ℕ → Kind → ℕ → List ℕ
given_by w (Byte b) x = replicate (w + 1) x
given_by w (Count n) x = []
given_by w (Address k) x = replicate (w + 1) x

-- the count in hand after it
abbrev pub in_hand_by : ℕ → Kind → ℕ
in_hand_by w (Byte b) = 0
in_hand_by w (Count n) = n
in_hand_by w (Address k) = 0

abbrev pub in_hand : ℕ → List Cell → ℕ
in_hand w [] = w
in_hand w (c ∷ cs) = in_hand (in_hand_by w (kind_of c)) cs

-- the expansion of a list, with a count w in hand
abbrev pub expanded : ℕ → List Cell → List ℕ
expanded w [] = []
expanded w (c ∷ cs) = given_by w (kind_of c) c.byte ++ expanded (in_hand_by w (kind_of c)) cs
