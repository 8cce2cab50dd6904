-- Cells without an address: the reading stays on its channel, and all that they add is added there.
use Rattle.std.proofs.Common.{◌≡◌, ℕ, ◌+◌, ◌-◌, ◌<◌, ◌≤◌, ◌&&◌, eqb, ltb, List, [], ◌∷◌, length, sym, refl, ap, ◌∙◌, subst, inl, inr, arith, length-append}
use Rattle.std.specs.List.{All}
use Rattle.std.proofs.lemmas.List.Elements.{All-nil, All-cons, All-head, All-tail, All-append}
use Rattle.std.proofs.lemmas.Bool.{cases_lt, cases_Bool, lt-ltb, le-ltb, ltb-true, and_parts, cond-true, cond-false}
use Rattle.cell.specs.declared.cells.Cell.{Cell}
use Rattle.cell.specs.declared.cells.Kind.TheVariants.{Count}
use Rattle.cell.specs.declared.cells.Tag.TheVariants.{Data, Command}
use Rattle.cell.specs.declared.cursor.Cursor.{Cursor}
use Rattle.cell.specs.Cells.{kind_of}
use Rattle.cell.specs.Reading.{cells, moved, moved_by, gained, reached, added}
use Rattle.script.specs.Encoding.{run_cells, runs, text_cells}
use Rattle.script.proofs.Spelling.{on_channel, for_own, text_added}
use Rattle.host.specs.Playing.{kept_of, kept}

abbrev pub Stays : Cell → Type 0
Stays c = (r : Cursor) → (moved r c).channel ≡ r.channel

abbrev pub Steady : List Cell → Type 0
Steady cs = All Stays cs

pub steady_channel : (r : Cursor) (xs : List Cell) → Steady xs → (reached r (cells xs)).channel ≡ r.channel
steady_channel r [] s = refl
steady_channel r (x ∷ xs) s = steady_channel (moved r x) xs (All-tail Stays x xs s) ∙ All-head Stays x xs s r

pub steady_kept : (c : ℕ) (r : Cursor) (xs : List Cell) → r.channel ≡ c → Steady xs → kept r xs ≡ length (added r (cells xs) c)
steady_kept c r [] e s = refl
steady_kept c r (x ∷ xs) e s =
    ap (λ n. kept_of r x + n) (steady_kept c (moved r x) xs (All-head Stays x xs s r ∙ e) (All-tail Stays x xs s))
    ∙ ap (λ k. length (gained r x k) + length (added (moved r x) (cells xs) c)) e
    ∙ sym (length-append (gained r x c) (added (moved r x) (cells xs) c))

-- runs have no address in them
run_steady : (n b : ℕ) → 1 ≤ n → n ≤ 128 → Steady (run_cells n b)
run_steady n b l h =
    let byte : Steady (record { byte = b; tag = Data } ∷ []) = All-cons Stays _ [] (λ r. refl) (All-nil Stays) in
    elim (cases_lt 1 n) [
      | inl m ↦ subst Steady (sym (cond-true (ltb 1 n) _ _ (lt-ltb 1 n m)))
          (All-cons Stays _ (record { byte = b; tag = Data } ∷ []) (λ r. ap (λ κ. (moved_by r κ).channel) {x = kind_of (record { byte = n - 1; tag = Command })} {y = Count (n - 1)} (cond-true (ltb (n - 1) 128) _ _ (lt-ltb (n - 1) 128 (omega arith)))) byte)
      | inr m ↦ subst Steady (sym (cond-false (ltb 1 n) _ _ (le-ltb 1 n m))) byte
    ]

runs_steady : (n b : ℕ) (xs : List ℕ) → 1 ≤ n → n ≤ 128 → Steady (runs n b xs)
runs_steady n b [] l h = run_steady n b l h
runs_steady n b (x ∷ xs) l h = elim (cases_Bool (eqb x b && ltb n 128)) [
  | inl e ↦ subst Steady (sym (cond-true (eqb x b && ltb n 128) _ _ e))
      (runs_steady (n + 1) b xs (omega arith) (let p = and_parts (eqb x b) (ltb n 128) e in omega (arith, ltb-true n 128 p.1)))
  | inr e ↦ subst Steady (sym (cond-false (eqb x b && ltb n 128) _ _ e)) (All-append Stays (run_cells n b) (runs 1 x xs) (run_steady n b l h) (runs_steady 1 x xs (omega arith) (omega arith)))
]

pub text_steady : (text : List ℕ) → Steady (text_cells text)
text_steady [] = All-nil Stays
text_steady (x ∷ xs) = runs_steady 1 x xs (omega arith) (omega arith)

-- so a text's cells keep as many bytes as the text has
pub text_kept : (c : ℕ) (text : List ℕ) → c < 8 → kept (on_channel c) (text_cells text) ≡ length text
text_kept c text l =
    steady_kept c (on_channel c) (text_cells text) refl (text_steady text)
    ∙ ap length (text_added c c text ∙ for_own c text l)
