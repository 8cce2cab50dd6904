-- A script cut after its first line.
use Rattle.std.proofs.Common.{◌≡◌, ℕ, ◌+◌, ◌-◌, not, eqb, List, [], ◌∷◌, length, take, drop, Some, None, position, refl, arith, tests}
use Rattle.std.specs.List.{before_first, after_first}
use Rattle.std.proofs.lemmas.Grind.{common_steps}
use Rattle.std.proofs.lemmas.List.Sums.{take_while-cons}
use Rattle.script.specs.Lines.{first_line, later_lines}

first_before : (xs : List ℕ) → first_line xs ≡ before_first (λ byte. eqb byte 10) xs
first_before [] = refl
first_before (x ∷ xs) = grind (arith, tests, first_before xs, take_while-cons (λ byte. not (eqb byte 10)) x xs)

later_after : (xs : List ℕ) → later_lines xs ≡ after_first (λ byte. eqb byte 10) xs
later_after [] = refl
later_after (x ∷ xs) = grind (arith, tests, later_after xs)

-- a script with a line end at i
pub first_cut : (xs : List ℕ) (i : ℕ) → Some i ≡ position (λ byte. eqb byte 10) xs → take i xs ≡ first_line xs
first_cut xs i e = grind (arith, common_steps, tests, first_before xs)

pub later_cut : (xs : List ℕ) (i : ℕ) → Some i ≡ position (λ byte. eqb byte 10) xs → take (length xs - (i + 1)) (drop (i + 1) xs) ≡ later_lines xs
later_cut xs i e = grind (arith, common_steps, tests, later_after xs)

-- a script of one line
pub first_whole : (xs : List ℕ) → None ≡ position (λ byte. eqb byte 10) xs → xs ≡ first_line xs
first_whole xs e = grind (arith, common_steps, tests, first_before xs)

pub later_none : (xs : List ℕ) → None ≡ position (λ byte. eqb byte 10) xs → ◌≡◌ {A = List ℕ} [] (later_lines xs)
later_none xs e = grind (arith, common_steps, tests, later_after xs)

pub ruleset cuts = (first_cut, later_cut, first_whole, later_none)
