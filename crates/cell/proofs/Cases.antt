-- The worked cases.
use Rattle.std.proofs.Common.{◌≡◌, ℕ, cond, ◌&&◌, eqb, ltb, List, [], ◌++◌, refl, ap, arith}
use Rattle.std.proofs.lemmas.Bool.Decides.{nat_tests}
use Rattle.cell.specs.Cases.{WorkedCases}

-- a channel other than the one that is read adds nothing
other : (j k : ℕ) (xs : List ℕ) → (j ≡ k → ⊥) → cond (eqb j k && ltb j 8) xs [] ++ [] ≡ []
other j k xs ne = let e : cond (eqb j k && ltb j 8) xs [] ≡ [] = grind (arith, nat_tests) in ap (λ z. z ++ []) e

pub all : WorkedCases
all = record {
  counted = record { there = refl; nowhere_else = λ j ne. other j 5 _ ne };
  longest = record { there = refl; nowhere_else = λ j ne. other j 1 _ ne };
  dropped = record { there = refl; nowhere_else = λ j ne. other j 1 _ ne };
  replaced = record { there = refl; nowhere_else = λ j ne. other j 1 _ ne };
  given_out = refl;
}
