-- Writing one item over and over.
use Rattle.std.proofs.Common.{◌≡◌, ℕ, ◌+◌, ◌≤◌, List, [], ◌∷◌, ◌++◌, length, refl, take, drop, replicate, leb, sym, subst, ap, ◌∙◌, arith, length-append, length-drop, length-take}
use lib.ListN.{length-replicate}
use Rattle.std.proofs.lemmas.Bool.{cond-true, le-leb}
use Rattle.std.proofs.lemmas.List.{drop-append-le, drop-take, length-take-le}
use borrow.Rule.Slice.PartMut.{put_mid}
use Rattle.std.proofs.lemmas.Slice.{put_mid-paste, take-put_mid_below, take-put_mid, drop-put_mid}
use Rattle.std.proofs.lemmas.List.Edits.{paste_all}
use Rattle.std.specs.List.{FoldsTo}
use Rattle.handshake.specs.Spread.{written, spread_out}

-- calls that each give x, and leave the callee as it was, give nothing else
pub all_alike : {F X : Type 0} (R : F → X → F → Type 0) (x : X) (f : F) → ((y : X) (q : F) → R f y q → (y ≡ x) × (q ≡ f)) → (ys : List X) (q : F) → FoldsTo R f ys q → ys ≡ replicate (length ys) x
all_alike R x f alike [] q ran = refl
all_alike R x f alike (y ∷ ys) q ran =
    let same = alike y ran.0 ran.1 in
    ap (λ z. z ∷ ys) same.0 ∙ ap (λ zs. x ∷ zs) (all_alike R x f alike ys q (subst (λ p. FoldsTo R p ys q) same.1 ran.2))

-- a write is a part put back
put : {X : Type 0} (xs : List X) (at n : ℕ) (x : X) → at + n ≤ length xs → put_mid at n xs (replicate n x) ≡ written xs at n x
put xs at n x fits =
    put_mid-paste at n xs (replicate n x) (replicate n x) n refl refl (sym (length-replicate n x)) ∙ paste_all xs at (replicate n x) n (sym (length-replicate n x))

-- the k places from `at` on hold nothing but x
pub written_over : {X : Type 0} (xs : List X) (at n k : ℕ) (x : X) → at + n ≤ length xs → k ≡ n → (ys : List X) → length ys ≡ length (take k (drop at xs)) → ys ≡ replicate (length ys) x →
    put_mid at k xs ys ≡ spread_out xs at n x
written_over xs at n k x fits same ys len alike =
    let l : length ys ≡ n = simp (length-take, length-drop) at len ∙ omega arith in
    ap (λ i. put_mid at i xs ys) same ∙ ap (put_mid at n xs) (alike ∙ ap (λ i. replicate i x) l) ∙ put xs at n x fits
    ∙ sym (cond-true (leb (at + n) (length xs)) _ xs (le-leb (at + n) (length xs) fits))

-- what is left of each part of the memory
module _ {X : Type 0} (xs : List X) (at n : ℕ) (x : X) (fits : at + n ≤ length xs) where
  pub length_written : length (written xs at n x) ≡ length xs
  length_written = simp (length-append, length-replicate, length-take, length-drop) (omega arith)

  pub before : (m : ℕ) → m ≤ at → take m (written xs at n x) ≡ take m xs
  before m h = ap (take m) (sym (put xs at n x fits)) ∙ take-put_mid_below at n xs (replicate n x) m h (omega arith)

  pub after : (m : ℕ) → at + n ≤ m → drop m (written xs at n x) ≡ drop m xs
  after m h = ap (drop m) (sym (put xs at n x fits)) ∙ drop-put_mid at n xs (replicate n x) m h (omega arith) (length-replicate n x)

  -- the stretch from o on, of which u places stand before the write
  pub joined : (o u : ℕ) → o + u ≡ at → take (u + n) (drop o (written xs at n x)) ≡ take u (drop o xs) ++ replicate n x
  joined o u e =
      let l : length (replicate n x) ≡ n = length-replicate n x in
      let t : length (take at xs) ≡ at = length-take-le at xs (omega arith) in
      sym (drop-take o (u + n) (written xs at n x))
      ∙ ap (drop o) (ap (take (o + (u + n))) (sym (put xs at n x fits)) ∙ take-put_mid at n xs (replicate n x) (o + (u + n)) (omega arith) (omega arith))
      ∙ drop-append-le o (take at xs) (replicate n x) (omega arith)
      ∙ ap (λ z. z ++ replicate n x) (ap (λ i. drop o (take i xs)) (sym e) ∙ drop-take o u xs)
