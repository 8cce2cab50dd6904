-- The lanes: each lies apart from the others, and a put writes on one of them.
use Rattle.std.proofs.Common.{◌≡◌, ℕ, ◌+◌, ◌-◌, ◌*◌, ◌/◌, ◌<◌, ◌≤◌, min, cond, ltb, leb, ◌⊎◌, List, length, get_or, take, drop, set, sym, refl, ap, ◌∙◌, subst, inl, inr, mul-le-mul_right, add-mul, one-mul, arith, length-drop, length-take}
use native.Mathlib.Nat.{mul-div-le}
use Rattle.std.proofs.lemmas.Bool.{cases_lt, cond-true, le-leb}
use Rattle.std.proofs.lemmas.Bool.Decides.{nat_tests}
use Rattle.std.proofs.lemmas.List.{drop-take, get_or-set_same, get_or-set_other}
use Rattle.inserter.specs.Rules.{Places}
use Rattle.handshake.specs.Storage.{Grown}
use Rattle.handshake.specs.Spread.{written, spread_out}
use Rattle.lanes.specs.Lanes.{lane_limit, stretch, used, lane, room, next_place, laned}
use Rattle.handshake.proofs.Spreading.{length_written, before, after, joined}

sides : (k c : ℕ) → (k ≡ c → ⊥) → (k < c) ⊎ (c < k)
sides k c ne = grind arith

-- a lower lane ends where a higher one begins, or earlier
rows : (k c s : ℕ) → k < c → k * s + s ≤ c * s
rows k c s h = omega (arith, mul-le-mul_right {m = k + 1} {n = c} s (omega arith), add-mul k 1 s, one-mul s)

used_most : (s : ℕ) (lens : List ℕ) (k : ℕ) → used s lens k ≤ s
used_most s lens k = grind (arith, nat_tests)

-- the eight lanes lie within the memory
pub whole : (xs : List ℕ) → 8 * stretch xs ≤ length xs
whole xs = omega (arith, mul-div-le (length xs) 8)

module _ (xs lens : List ℕ) (k : ℕ) where
  pub lane_length : used (stretch xs) lens k ≡ length (lane xs lens k)
  lane_length = elim (cases_lt k 8) [
    | inl l ↦ let w = whole xs in let m = used_most (stretch xs) lens k in let r = rows k 8 (stretch xs) l in simp (length-take, length-drop) (omega arith)
    | inr h ↦ let z : used (stretch xs) lens k ≡ 0 = grind (arith, nat_tests) in rw (length-take, z) (omega arith)
  ]

-- bytes put on lane c, where they have room
module _ (xs lens : List ℕ) (c n b : ℕ) (eight : length lens ≡ 8) (low : c < 8) (fits : n ≤ room xs lens c) where
  fit : used (stretch xs) lens c + n ≤ stretch xs
  fit = let m = used_most (stretch xs) lens c in let r : room xs lens c ≡ stretch xs - used (stretch xs) lens c = grind (arith, nat_tests) in omega arith

  pub inside : next_place xs lens c + n ≤ length xs
  inside = let f = fit in let w = whole xs in omega (arith, rows c 8 (stretch xs) low)

  used_here : used (stretch xs) (set lens c (used (stretch xs) lens c + n)) c ≡ used (stretch xs) lens c + n
  used_here =
      let f = fit in
      let g = get_or-set_same lens c (used (stretch xs) lens c + n) 0 (omega arith) in
      let l : used (stretch xs) (set lens c (used (stretch xs) lens c + n)) c ≡ min (get_or (set lens c (used (stretch xs) lens c + n)) c 0) (stretch xs) = grind (arith, nat_tests) in
      omega arith

  used_there : (k : ℕ) → (k ≡ c → ⊥) → used (stretch xs) (set lens c (used (stretch xs) lens c + n)) k ≡ used (stretch xs) lens k
  used_there k ne = ap (λ i. cond (ltb k 8) (min i (stretch xs)) 0) (get_or-set_other lens c k (used (stretch xs) lens c + n) 0 ne)

  -- another lane holds what it held
  lane_there : (k : ℕ) → (k ≡ c → ⊥) →
      take (used (stretch xs) lens k) (drop (k * stretch xs) (written xs (c * stretch xs + used (stretch xs) lens c) n b)) ≡ take (used (stretch xs) lens k) (drop (k * stretch xs) xs)
  lane_there k ne =
      let at = c * stretch xs + used (stretch xs) lens c in
      let w : List ℕ = written xs (c * stretch xs + used (stretch xs) lens c) n b in
      elim (sides k c ne) [
        | inl l ↦
            let m = used_most (stretch xs) lens k in
            let q : k * stretch xs + used (stretch xs) lens k ≤ c * stretch xs + used (stretch xs) lens c = omega (arith, rows k c (stretch xs) l) in
            sym (drop-take (k * stretch xs) (used (stretch xs) lens k) w) ∙ ap (drop (k * stretch xs)) (before xs at n b inside (k * stretch xs + used (stretch xs) lens k) q)
            ∙ drop-take (k * stretch xs) (used (stretch xs) lens k) xs
        | inr h ↦
            let f = fit in
            ap (take (used (stretch xs) lens k)) (after xs at n b inside (k * stretch xs) (omega (arith, rows c k (stretch xs) h)))
      ]

  laid : (ys : List ℕ) → ys ≡ written xs (c * stretch xs + used (stretch xs) lens c) n b → stretch ys ≡ stretch xs →
      Grown c n b (lane xs lens) (room xs lens) (lane ys (set lens c (used (stretch xs) lens c + n))) (room ys (set lens c (used (stretch xs) lens c + n)))
  laid ys e same =
      let new : List ℕ = set lens c (used (stretch xs) lens c + n) in
      let f = fit in
      let uh = used_here in
      record {
        here = ap (λ t. take (used t new c) (drop (c * t) ys)) same ∙ ap (λ i. take i (drop (c * stretch xs) ys)) used_here ∙ ap (λ z. take (used (stretch xs) lens c + n) (drop (c * stretch xs) z)) e
            ∙ joined xs (c * stretch xs + used (stretch xs) lens c) n b inside (c * stretch xs) (used (stretch xs) lens c) refl;
        there = λ k ne. ap (λ t. take (used t new k) (drop (k * t) ys)) same ∙ ap (λ i. take i (drop (k * stretch xs) ys)) (used_there k ne)
            ∙ ap (λ z. take (used (stretch xs) lens k) (drop (k * stretch xs) z)) e ∙ lane_there k ne;
        places = subst (λ t. Places c n (room xs lens) (λ k. cond (ltb k 8) (t - used t new k) 0)) (sym same) (record {
          here = grind (arith, nat_tests);
          no_rise = λ k ne. let ut = used_there k ne in grind (arith, nat_tests);
          no_more = λ k ne. let ut = used_there k ne in grind (arith, nat_tests);
        });
      }

  -- the same, as the code has it: the bytes are written from `at` on, and u places of lane c were in use
  module _ (ys : List ℕ) (at u : ℕ) (place : at ≡ next_place xs lens c) (eu : u ≡ used (stretch xs) lens c) (e : ys ≡ spread_out xs at n b) where
    there : ys ≡ written xs (next_place xs lens c) n b
    there = e ∙ ap (λ i. spread_out xs i n b) place ∙ cond-true (leb (next_place xs lens c + n) (length xs)) _ xs (le-leb (next_place xs lens c + n) (length xs) inside)

    pub stored : Grown c n b (lane xs lens) (room xs lens) (lane ys (set lens c (u + n))) (room ys (set lens c (u + n)))
    stored =
        let same : stretch ys ≡ stretch xs = ap (λ l. min lane_limit (l / 8)) (ap length there ∙ length_written xs (next_place xs lens c) n b inside) in
        subst (λ v. Grown c n b (lane xs lens) (room xs lens) (lane ys (set lens c (v + n))) (room ys (set lens c (v + n)))) (sym eu) (laid ys there same)

    pub memory : ys ≡ laned xs (length (lane xs lens c)) c n b
    memory = there ∙ ap (λ i. written xs (c * stretch xs + i) n b) (lane_length xs lens c)
