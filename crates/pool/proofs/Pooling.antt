-- The pool: what a channel holds of the records, and what a put adds.
use Rattle.std.proofs.Common.{◌≡◌, ℕ, zero, suc, ◌+◌, ◌≤◌, leb, List, [], ◌++◌, map, length, take, replicate, filter, sym, refl, ap, ◌∙◌, append-nil, arith}
use Rattle.std.proofs.lemmas.List.Elements.{filter-append}
use Rattle.std.proofs.lemmas.List.{map-append}
use Rattle.std.proofs.lemmas.Bool.{cond-true, le-leb, eq-eqb, ne_eqb}
use Rattle.handshake.specs.Storage.{Grown}
use Rattle.handshake.specs.Spread.{written, spread_out}
use Rattle.handshake.proofs.Spreading.{length_written, joined}
use Rattle.pool.specs.declared.record.Record.{Record}
use Rattle.pool.specs.Pool.{in_use, record_of, is_on, bytes_of, pooled, left, stored, stored_after}

bytes_of_append : (k : ℕ) (xs ys : List Record) → bytes_of k (xs ++ ys) ≡ bytes_of k xs ++ bytes_of k ys
bytes_of_append k xs ys = ap (map (λ x. x.byte)) (filter-append (is_on k) xs ys) ∙ map-append (λ x. x.byte) (filter (is_on k) xs) (filter (is_on k) ys)

-- what n records of channel c give to that channel, and to another
module _ (c b : ℕ) where
  bytes_here : (n : ℕ) → bytes_of c (replicate n (record_of c b)) ≡ replicate n b
  bytes_here zero = refl
  bytes_here (suc n) = simp (eq-eqb c c refl, bytes_here n)

  bytes_there : (k n : ℕ) → (k ≡ c → ⊥) → bytes_of k (replicate n (record_of c b)) ≡ []
  bytes_there k zero ne = refl
  bytes_there k (suc n) ne = simp (ne_eqb c k (λ e. ne (sym e)), bytes_there k n ne)

-- n records of channel c and byte b, where so many places are left
module _ (xs : List Record) (used c n b : ℕ) (fits : n ≤ left xs used) where
  inside : in_use xs used + n ≤ length xs
  inside = omega arith

  -- they are written from `at` on, where `at` records were in use
  pub appended : (ys : List Record) (at : ℕ) → at ≡ in_use xs used → ys ≡ spread_out xs at n (record_of c b) → stored ys (at + n) ≡ stored_after (stored xs used) (length (pooled xs used c)) c n b
  appended ys at place e =
      let there : ys ≡ written xs (in_use xs used) n (record_of c b) = e ∙ ap (λ i. spread_out xs i n (record_of c b)) place
      ∙ cond-true (leb (in_use xs used + n) (length xs)) _ xs (le-leb (in_use xs used + n) (length xs) inside) in
      let long : length ys ≡ length xs = ap length there ∙ length_written xs (in_use xs used) n (record_of c b) inside in
      let more : in_use ys (at + n) ≡ in_use xs used + n = omega arith in
      λ j. record { records = there j; used = more j }

  -- what that adds to the channels
  module _ (ys : List Record) (used' : ℕ) (kept : stored ys used' ≡ stored_after (stored xs used) (length (pooled xs used c)) c n b) where
    there : ys ≡ written xs (in_use xs used) n (record_of c b)
    there = ap (λ m. m.records) kept

    more_in_use : in_use ys used' ≡ in_use xs used + n
    more_in_use = ap (λ m. m.used) kept

    behind : take (in_use ys used') ys ≡ take (in_use xs used) xs ++ replicate n (record_of c b)
    behind = ap (λ i. take i ys) more_in_use ∙ ap (take (in_use xs used + n)) there ∙ joined xs (in_use xs used) n (record_of c b) inside 0 (in_use xs used) (omega arith)

    on_channel : (k : ℕ) → pooled ys used' k ≡ pooled xs used k ++ bytes_of k (replicate n (record_of c b))
    on_channel k = ap (bytes_of k) behind ∙ bytes_of_append k (take (in_use xs used) xs) (replicate n (record_of c b))

    pub grown : Grown c n b (pooled xs used) (λ k. left xs used) (pooled ys used') (λ k. left ys used')
    grown =
        let l : length ys ≡ length xs = ap length there ∙ length_written xs (in_use xs used) n (record_of c b) inside in
        let m = more_in_use in
        record {
          here = on_channel c ∙ ap (λ z. pooled xs used c ++ z) (bytes_here c b n);
          there = λ k ne. on_channel k ∙ ap (λ z. pooled xs used k ++ z) (bytes_there c b k n ne) ∙ append-nil (pooled xs used k);
          places = record { here = omega arith; no_rise = λ k ne. omega arith; no_more = λ k ne. omega arith };
        }
