-- The cells of a caption, read, give the caption.
use Rattle.std.proofs.Common.{◌≡◌, ℕ, ◌+◌, ◌-◌, ◌<◌, ◌≤◌, cond, ◌&&◌, eqb, ltb, List, [], ◌∷◌, ◌++◌, replicate, None, sym, refl, ap, ◌∙◌, append_assoc, append-nil, arith, tests}
use mathlib.Core.List.{map-append}
use Rattle.std.proofs.lemmas.List.{replicate-append-replicate}
use Rattle.cell.specs.declared.cells.Kind.TheVariants.{Count, Address}
use Rattle.cell.specs.declared.cursor.Cursor.{Cursor}
use Rattle.cell.specs.Cells.{kind_of}
use Rattle.cell.specs.Reading.{cells, reached, added}
use Rattle.cell.proofs.Laws.{reached-++, added-++}
use Rattle.script.specs.Encoding.{count_cell, address_cell, run_cells, runs, text_cells, caption_cells, Spells}

-- a count of n - 1 is read as one
counts : (n : ℕ) → n ≤ 128 → 1 ≤ n → kind_of (count_cell n) ≡ Count (n - 1)
counts n h l = grind (arith, tests)

-- a reading that stands on a channel, without a count
abbrev pub on_channel : ℕ → Cursor
on_channel c = record { channel = c; count = None }

-- what a channel k gets of bytes for channel c
abbrev pub for : ℕ → ℕ → List ℕ → List ℕ
for c k xs = cond (eqb k c && ltb k 8) xs []

pub for_own : (c : ℕ) (xs : List ℕ) → c < 8 → for c c xs ≡ xs
for_own c xs l = grind (arith, tests)

for-++ : (c k : ℕ) (xs ys : List ℕ) → for c k xs ++ for c k ys ≡ for c k (xs ++ ys)
for-++ c k xs ys = grind (arith, tests)

-- one more of the same
more : (n b : ℕ) (xs : List ℕ) → replicate n b ++ (b ∷ xs) ≡ replicate (n + 1) b ++ xs
more n b xs = sym (append_assoc (replicate n b) (b ∷ []) xs) ∙ ap (λ z. z ++ xs) (replicate-append-replicate n 1 b)

module _ (c : ℕ) where
  run_reached : (n b : ℕ) → 1 ≤ n → n ≤ 128 → reached (on_channel c) (cells (run_cells n b)) ≡ on_channel c
  run_reached n b l h = grind (arith, tests, counts n h l)

  run_added : (k n b : ℕ) → 1 ≤ n → n ≤ 128 → added (on_channel c) (cells (run_cells n b)) k ≡ for c k (replicate n b)
  run_added k n b l h = grind (arith, tests, counts n h l, append-nil)

  runs_reached : (n b : ℕ) (xs : List ℕ) → 1 ≤ n → n ≤ 128 → reached (on_channel c) (cells (runs n b xs)) ≡ on_channel c
  runs_reached n b [] l h = run_reached n b l h
  runs_reached n b (x ∷ xs) l h = grind (arith, tests, runs_reached (n + 1) b xs, runs_reached 1 x xs, run_reached n b l h, map-append, reached-++)

  runs_added : (k n b : ℕ) (xs : List ℕ) → 1 ≤ n → n ≤ 128 → added (on_channel c) (cells (runs n b xs)) k ≡ for c k (replicate n b ++ xs)
  runs_added k n b [] l h = run_added k n b l h ∙ ap (for c k) (sym (append-nil (replicate n b)))
  runs_added k n b (x ∷ xs) l h = grind (arith, tests, more n b xs, runs_added k (n + 1) b xs, runs_added k 1 x xs, run_reached n b l h, run_added k n b l h, for-++, map-append, added-++)

  pub text_reached : (text : List ℕ) → reached (on_channel c) (cells (text_cells text)) ≡ on_channel c
  text_reached [] = refl
  text_reached (x ∷ xs) = runs_reached 1 x xs (omega arith) (omega arith)

  pub text_added : (k : ℕ) (text : List ℕ) → added (on_channel c) (cells (text_cells text)) k ≡ for c k text
  text_added k [] = grind (arith, tests)
  text_added k (x ∷ xs) = runs_added k 1 x xs (omega arith) (omega arith)

-- the address of one of the eight channels is read as one
pub addresses : (c : ℕ) → c < 8 → kind_of (address_cell c) ≡ Address c
addresses c l = grind (arith, tests)

pub spells : (c : ℕ) (text : List ℕ) → c < 8 → Spells (caption_cells c text) c text
spells c text l = record {
  there = grind (arith, addresses c l, text_added c c text, for_own c text l);
  nowhere_else = λ k ne. grind (arith, tests, addresses c l, text_added c k text);
  ends = grind (arith, addresses c l, text_reached c text);
}
