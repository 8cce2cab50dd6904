-- A word of digits.
use Rattle.std.specs.Prelude.{ℕ, ◌-◌, cond, ◌&&◌, List, [], ◌∷◌, length, Some, None, Option, ◌==◌, nat_le}

-- the value of a decimal digit
abbrev pub digit_of : ℕ → Option ℕ
digit_of b = cond (nat_le 48 b && nat_le b 57) (Some (b - 48)) None

abbrev pub before : Option ℕ → Option (List ℕ) → Option (List ℕ)
before None r = None
before (Some x) None = None
before (Some x) (Some xs) = Some (x ∷ xs)

-- the values of a word's digits, where each of its letters is one
abbrev pub digits_of : List ℕ → Option (List ℕ)
digits_of [] = Some []
digits_of (b ∷ bs) = before (digit_of b) (digits_of bs)

-- the values of a word of just eight digits
abbrev pub eight_digits : List ℕ → Option (List ℕ)
eight_digits word = cond (length word == 8) (digits_of word) None
