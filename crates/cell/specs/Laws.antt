-- What holds of reading and expansion.
use Rattle.std.specs.Prelude.{◌≡◌, ℕ, List, ◌++◌}
use Rattle.cell.specs.declared.cells.Cell.{Cell}
use Rattle.cell.specs.declared.cursor.Cursor.{Cursor}
use Rattle.cell.specs.Reading.{Item, reached, added}
use Rattle.cell.specs.Expansion.{in_hand, expanded}

-- a list read in two parts: the second is read on from where the first stopped
pub record ReadsInParts : Type 0 where
  pub place : (r : Cursor) (xs ys : List Item) → reached r (xs ++ ys) ≡ reached (reached r xs) ys
  pub bytes : (r : Cursor) (xs ys : List Item) (k : ℕ) → added r (xs ++ ys) k ≡ added r xs k ++ added (reached r xs) ys k

-- a list expanded in two parts: the second with the count that the first leaves in hand
pub record ExpandsInParts : Type 0 where
  pub count : (w : ℕ) (cs ds : List Cell) → in_hand w (cs ++ ds) ≡ in_hand (in_hand w cs) ds
  pub bytes : (w : ℕ) (cs ds : List Cell) → expanded w (cs ++ ds) ≡ expanded w cs ++ expanded (in_hand w cs) ds
