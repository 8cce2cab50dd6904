-- Bytes spelt out, and read place by place.
use Rattle.std.proofs.Common.{◌≡◌, ℕ, zero, suc, ◌<◌, ltb, List, [], ◌∷◌, length, get_or, map, Some, lit<, arith}
use Rattle.std.specs.Str.{IsAscii}
use Rattle.std.proofs.lemmas.Bool.{lt-ltb, cond-true}
use Rattle.std.proofs.lemmas.Bool.Decides.{nat_tests}
use Rattle.std.proofs.lemmas.Str.{encodes-IsAscii}
use Rattle.std.proofs.Math.Utf8.{encodes}
use Rattle.inserter.specs.Meaning.{at_place}
use Rattle.listing.specs.Shown.{letter, text_of}

-- the byte at a place that is in use
pub byte_there : (xs : List ℕ) (i : ℕ) → i < length xs → at_place xs i ≡ Some (get_or xs i 0)
byte_there xs i h = cond-true (ltb i (length xs)) _ _ (lt-ltb i (length xs) h)

letter_small : (b : ℕ) → letter b < 128
letter_small b = grind (arith, nat_tests)

-- letters are ASCII, so each is one byte of a text
letters_ascii : (bs : List ℕ) → IsAscii (map letter bs)
letters_ascii [] i = lit< tt
letters_ascii (b ∷ bs) zero = letter_small b
letters_ascii (b ∷ bs) (suc i) = letters_ascii bs i

pub text_bytes : (bs : List ℕ) → encodes (map letter bs) ≡ text_of bs
text_bytes bs = encodes-IsAscii (map letter bs) (letters_ascii bs)
