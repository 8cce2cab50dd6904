-- Reading and expansion in two parts, and the tag as a line.
use Rattle.std.proofs.Common.{◌≡◌, ℕ, Bool, true, false, List, [], ◌∷◌, ◌++◌, sym, refl, ap, ◌∙◌, append_assoc}
use Rattle.cell.specs.declared.cells.Cell.{Cell}
use Rattle.cell.specs.declared.cursor.Cursor.{Cursor}
use Rattle.cell.specs.declared.cells.Tag.{Tag}
use Rattle.cell.specs.declared.cells.Tag.TheVariants.{Data, Command}
use Rattle.cell.specs.Cells.{level_of, tag_at, kind_of}
use Rattle.cell.specs.Reading.{Item, cell, mark, start, moved, gained, reached, added}
use Rattle.cell.specs.Expansion.{given_by, in_hand_by, in_hand, expanded}

pub reached-++ : (r : Cursor) (xs ys : List Item) → reached r (xs ++ ys) ≡ reached (reached r xs) ys
reached-++ r [] ys = refl
reached-++ r (cell c ∷ xs) ys = reached-++ (moved r c) xs ys
reached-++ r (mark ∷ xs) ys = reached-++ start xs ys

pub added-++ : (r : Cursor) (xs ys : List Item) (k : ℕ) → added r (xs ++ ys) k ≡ added r xs k ++ added (reached r xs) ys k
added-++ r [] ys k = refl
added-++ r (cell c ∷ xs) ys k =
    ap (λ z. gained r c k ++ z) (added-++ (moved r c) xs ys k) ∙ sym (append_assoc (gained r c k) (added (moved r c) xs k) (added (reached (moved r c) xs) ys k))
added-++ r (mark ∷ xs) ys k = added-++ start xs ys k

pub in_hand-++ : (w : ℕ) (cs ds : List Cell) → in_hand w (cs ++ ds) ≡ in_hand (in_hand w cs) ds
in_hand-++ w [] ds = refl
in_hand-++ w (c ∷ cs) ds = in_hand-++ (in_hand_by w (kind_of c)) cs ds

pub expanded-++ : (w : ℕ) (cs ds : List Cell) → expanded w (cs ++ ds) ≡ expanded w cs ++ expanded (in_hand w cs) ds
expanded-++ w [] ds = refl
expanded-++ w (c ∷ cs) ds =
    let v = in_hand_by w (kind_of c) in
    let g = given_by w (kind_of c) c.byte in
    ap (λ z. g ++ z) (expanded-++ v cs ds) ∙ sym (append_assoc g (expanded v cs) (expanded (in_hand v cs) ds))

-- a tag and its line undo one another
pub level_tag : (t : Bool) → level_of (tag_at t) ≡ t
level_tag true = refl
level_tag false = refl

pub tag_level : (t : Tag) → tag_at (level_of t) ≡ t
tag_level Data = refl
tag_level Command = refl
