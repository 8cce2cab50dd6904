-- Cells given one after the other.
use Rattle.std.proofs.Common.{◌≡◌, ℕ, ◌+◌, ◌*◌, ◌<◌, ◌≤◌, List, [], ◌∷◌, ◌++◌, length, get_or, take, sym, ap, ◌∙◌, append_assoc, append-nil, add_assoc, add-mul, one-mul, zero-add, arith}
use mathlib.Core.List.{map-append}
use Rattle.std.proofs.lemmas.List.{take_more}
use Rattle.cell.specs.declared.cells.Cell.{Cell}
use Rattle.cell.specs.declared.cursor.Cursor.{Cursor}
use Rattle.cell.specs.Reading.{cell, cells, start, moved, gained, reached, reading}
use Rattle.cell.proofs.Laws.{reached-++, added-++}
use Rattle.inserter.specs.Meaning.{Meaning, resting}
use Rattle.host.specs.Playing.{no_cell, kept_of, kept, Took}

pub kept-++ : (r : Cursor) (xs ys : List Cell) → kept r (xs ++ ys) ≡ kept r xs + kept (reached r (cells xs)) ys
kept-++ r [] ys = sym (zero-add (kept r ys))
kept-++ r (c ∷ xs) ys = ap (λ n. kept_of r c + n) (kept-++ (moved r c) xs ys) ∙ sym (add_assoc (kept_of r c) (kept (moved r c) xs) (kept (reached (moved r c) (cells xs)) ys))

-- the first i cells were taken
pub record SoFar (d : ℕ) (m : Meaning) (cs : List Cell) (i : ℕ) (m' : Meaning) : Type 0 where
  pub held : (k : ℕ) → m'.held k ≡ m.held k ++ reading (cells (take i cs)) k
  pub cursor : m'.cursor ≡ reached start (cells (take i cs))
  pub offers : m'.offers ≡ m.offers
  pub front : m'.front ≡ resting d
  pub places : (k : ℕ) → m.free k ≤ m'.free k + kept start (take i cs)

module _ (d : ℕ) (m : Meaning) (cs : List Cell) (i : ℕ) (m₁ : Meaning) (so : SoFar d m cs i m₁) where
  pub one_more : i < length cs → (m' : Meaning) → Took d (get_or cs i no_cell) m₁ m' → SoFar d m cs (i + 1) m'
  one_more h m' took =
      let c = get_or cs i no_cell in
      let more : take (i + 1) cs ≡ take i cs ++ (get_or cs i no_cell ∷ []) = take_more cs i no_cell h in
      let spelt : cells (take (i + 1) cs) ≡ cells (take i cs) ++ (cell (get_or cs i no_cell) ∷ []) = ap cells more ∙ map-append cell (take i cs) (c ∷ []) in
      record {
        held = λ k. took.held k ∙ ap (λ z. z ++ gained m₁.cursor c k) (so.held k) ∙ append_assoc (m.held k) (reading (cells (take i cs)) k) (gained m₁.cursor c k)
            ∙ ap (λ z. m.held k ++ z)
            (ap (λ r. reading (cells (take i cs)) k ++ gained r c k) so.cursor
            ∙ ap (λ z. reading (cells (take i cs)) k ++ z) (sym (append-nil (gained (reached start (cells (take i cs))) c k)))
            ∙ sym (added-++ start (cells (take i cs)) (cell c ∷ []) k) ∙ ap (λ z. reading z k) (sym spelt));
        cursor = took.cursor ∙ ap (λ r. moved r c) so.cursor ∙ sym (reached-++ start (cells (take i cs)) (cell c ∷ [])) ∙ ap (reached start) (sym spelt);
        offers = took.offers ∙ so.offers;
        front = took.front;
        places = λ k.
            let n : kept start (take (i + 1) cs) ≡ kept start (take i cs) + (kept_of m₁.cursor (get_or cs i no_cell) + 0) =
            ap (kept start) more ∙ kept-++ start (take i cs) (c ∷ []) ∙ ap (λ r. kept start (take i cs) + (kept_of r c + 0)) (sym so.cursor) in
            omega (arith, so.places k, took.places k, n);
      }

-- looks, counted
pub looks_more : (n i e : ℕ) → n ≡ i * e → n + e ≡ (i + 1) * e
looks_more n i e h = omega (arith, add-mul i 1 e, one-mul e)
