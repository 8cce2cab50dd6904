-- Reading: what cells and marks put on each channel, and where the reading stands after them.
use Rattle.std.specs.Prelude.{ℕ, ◌+◌, cond, ◌&&◌, List, [], ◌∷◌, ◌++◌, map, replicate, Some, None, Option, ◌==◌, nat_lt}
use Rattle.cell.specs.declared.cells.Cell.{Cell}
use Rattle.cell.specs.declared.cells.Kind.{Kind}
use Rattle.cell.specs.declared.cells.Kind.TheVariants.{Byte, Count, Address}
use Rattle.cell.specs.declared.cursor.Cursor.{Cursor}
use Rattle.cell.specs.Cells.{kind_of}

-- what is read: a cell, or the mark that a dropped cable leaves
pub data Item : Type 0 where
  cell : Cell → Item
  mark : Item

-- a reading begins on channel 127 without a count
abbrev pub start : Cursor
start = record { channel = 127; count = None }

-- how often a byte is added
abbrev pub repeats : Option ℕ → ℕ
repeats None = 1
repeats (Some n) = n + 1

-- an address sets the channel and drops the count; a count replaces an earlier one; a byte uses the count up
abbrev pub moved_by : Cursor → Kind → Cursor
moved_by r (Byte b) = record { channel = r.channel; count = None }
moved_by r (Count n) = record { channel = r.channel; count = Some n }
moved_by r (Address k) = record { channel = k; count = None }

abbrev pub moved : Cursor → Cell → Cursor
moved r c = moved_by r (kind_of c)

-- what one cell adds to channel k; channels above 7 keep nothing
abbrev pub gained_by : Cursor → Kind → ℕ → List ℕ
gained_by r (Byte b) k = cond (k == r.channel && nat_lt k 8) (replicate (repeats r.count) b) []
gained_by r (Count n) k = []
gained_by r (Address a) k = []

abbrev pub gained : Cursor → Cell → ℕ → List ℕ
gained r c k = gained_by r (kind_of c) k

-- where a reading that stands at r is after a list; a mark returns it to its beginning
abbrev pub reached : Cursor → List Item → Cursor
reached r [] = r
reached r (cell c ∷ xs) = reached (moved r c) xs
reached r (mark ∷ xs) = reached start xs

-- what a reading that stands at r adds to channel k
abbrev pub added : Cursor → List Item → ℕ → List ℕ
added r [] k = []
added r (cell c ∷ xs) k = gained r c k ++ added (moved r c) xs k
added r (mark ∷ xs) k = added start xs k

-- a list of cells, without a mark
abbrev pub cells : List Cell → List Item
cells cs = map cell cs

-- the whole reading of a list: the bytes of channel k
abbrev pub reading : List Item → ℕ → List ℕ
reading xs k = added start xs k
