-- What a table's two questions say of its entries, and where an entry stands.
use Rattle.std.proofs.Common.{◌≡◌, ℕ, ◌<◌, ◌≤◌, true, false, ◌||◌, eqb, leb, List, [], ◌∷◌, Ok, length, get_or, refl, ◌∙◌, inl, inr, arith}
use Rattle.std.proofs.Math.Numerals.{one-add}
use Rattle.std.specs.List.{AllByRecursion, IsDistinct, list_any, position_or_len}
use Rattle.std.proofs.lemmas.Bool.{cases_Bool, cases_eq, eq-eqb, or_parts}
use Rattle.std.proofs.lemmas.Bool.Decides.{nat_tests}
use Rattle.std.proofs.lemmas.Grind.{get_or_default_zero}
use Rattle.std.proofs.lemmas.List.Folds.{Any-from_list_any}
use Rattle.std.proofs.lemmas.List.Recursion.{same_from_clauses, is_position_or_len, or_at}
use Rattle.std.proofs.lemmas.List.Sums.{position_or_len_is}
use Rattle.std.proofs.lemmas.Map.Keys.{IsDistinct-cons, apart_from_distinct}
use Rattle.std.proofs.lemmas.Map.Steps.{length-le_from_distinct_below}
use Rattle.patch.specs.Tables.{any_high, stands, any_alike, table_answer, place_of}

-- ---- the library's words for them

pub any_high-any : (es : List ℕ) → list_any (leb 8) es ≡ any_high es
any_high-any es = same_from_clauses (list_any (leb 8)) any_high (λ x b. leb 8 x || b) refl (λ _ _. refl) (λ _ _. refl) es

pub place_of-position : (es : List ℕ) (c : ℕ) → place_of es c ≡ position_or_len (λ x. eqb x c) es
place_of-position es c = is_position_or_len (λ xs. place_of xs c) (λ x. eqb x c) refl (λ x xs. simp one-add) es

unlike : (x : ℕ) (ys : List ℕ) → stands x ys ≡ false → AllByRecursion (λ y. eqb x y ≡ false) ys
unlike x [] e = tt
unlike x (y ∷ ys) e = let p = or_parts (eqb y x) (stands x ys) e in (grind (arith, nat_tests), unlike x ys p.1)

distinct : (es : List ℕ) → any_alike es ≡ false → IsDistinct eqb es
unfolding IsDistinct
distinct [] e = tt
distinct (x ∷ xs) e = let p = or_parts (stands x xs) (any_alike xs) e in IsDistinct-cons eqb x xs (unlike x xs p.0) (distinct xs p.1)

-- ---- what they say

pub both_pass : (es : List ℕ) → table_answer es ≡ Ok tt → (any_high es ≡ false) × (any_alike es ≡ false)
both_pass es e = grind arith

pub below : (es : List ℕ) → any_high es ≡ false → (k : ℕ) → k < length es → get_or es k 0 < 8
below es low k l = let h = or_at any_high (leb 8) refl (λ _ _. refl) es k 0 l in grind (arith, nat_tests)

-- there are no more than eight different numbers below 8
few : (es : List ℕ) → any_high es ≡ false → any_alike es ≡ false → length es ≤ 8
few es low apart = length-le_from_distinct_below es 8 (distinct es apart) (λ q m.
    let a = Any-from_list_any (eqb q) es m in
    let z = get_or_default_zero es a.0 a.1 a.2 in
    let h = below es low a.0 a.2 in
    grind (arith, nat_tests, a.3, a.4))

-- ---- where an entry stands

found : (es : List ℕ) (c : ℕ) → stands c es ≡ true → (place_of es c < length es) × (get_or es (place_of es c) 0 ≡ c)
found [] c e = absurd cc
found (x ∷ xs) c e = elim (cases_eq x c) [
  | inl h ↦ grind (arith, nat_tests)
  | inr h ↦ let f = found xs c (grind (arith, nat_tests)) in grind (arith, nat_tests)
]

-- a ninth would be one too many, so each channel is among eight
pub placed : (es : List ℕ) → any_high es ≡ false → any_alike es ≡ false → length es ≡ 8 → (c : ℕ) → c < 8 → (place_of es c < 8) × (get_or es (place_of es c) 0 ≡ c)
placed es low apart eight c l = elim (cases_Bool (stands c es)) [
  | inl h ↦ let f = found es c h in (omega arith, f.1)
  | inr h ↦ let f : length (c ∷ es) ≤ 8 = few (c ∷ es) (grind (arith, nat_tests)) (grind arith) in absurd (omega arith)
]

-- in a list without two alike, each entry stands first where it stands
pub own_place : (es : List ℕ) → any_alike es ≡ false → (k : ℕ) → k < length es → place_of es (get_or es k 0) ≡ k
own_place es apart k l =
    place_of-position es (get_or es k 0)
    ∙ position_or_len_is (λ x. eqb x (get_or es k 0)) es k 0 (omega arith) (λ j h. apart_from_distinct eqb es j k 0 (distinct es apart) h l) (λ h. eq-eqb _ _ refl)
