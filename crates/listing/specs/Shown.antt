-- Bytes, for people to read.
use Rattle.std.specs.Prelude.{ℕ, ◌+◌, ◌/◌, ◌%◌, cond, ◌&&◌, List, [], ◌∷◌, map, nat_le, nat_lt}
use Rattle.std.specs.List.{flat_map}

-- the code of a hexadecimal digit: 0 to 9, A to F
abbrev pub digit : ℕ → ℕ
digit n = cond (nat_lt n 10) (48 + n) (55 + n)

abbrev pub hex_digits : ℕ → List ℕ
hex_digits b = digit (b / 16) ∷ digit (b % 16) ∷ []

-- each byte as its digits, in order
abbrev pub hex_of : List ℕ → List ℕ
hex_of bs = flat_map hex_digits bs

-- a byte itself where ASCII can print it, and otherwise a point
abbrev pub letter : ℕ → ℕ
letter b = cond (nat_le 32 b && nat_lt b 127) b 46

abbrev pub text_of : List ℕ → List ℕ
text_of bs = map letter bs
