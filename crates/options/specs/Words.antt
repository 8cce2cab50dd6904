-- The words of the program's arguments.
use Rattle.std.specs.Prelude.{ℕ, ◌+◌, ◌*◌, min, cond, List, [], ◌∷◌, Some, None, Option, option_and_then, bytes_eq, codes}
use Rattle.script.specs.Digits.{digit_of}
use Rattle.options.specs.declared.Make.TheVariants.{Lanes, Pool}
use Rattle.options.specs.declared.words.Wants.TheVariants.{Places, Patch}
use Rattle.options.specs.declared.words.Word.{Word}
use Rattle.options.specs.declared.words.Word.TheVariants.{Make, Wants, Help}

-- a text that is one of the words, letter for letter
abbrev pub word_of : List ℕ → Option Word
word_of w =
    cond (bytes_eq w (codes "lanes")) (Some (Make Lanes))
    (cond (bytes_eq w (codes "pool")) (Some (Make Pool))
    (cond (bytes_eq w (codes "--places")) (Some (Wants Places))
    (cond (bytes_eq w (codes "--patch")) (Some (Wants Patch))
    (cond (bytes_eq w (codes "--help")) (Some Help) None))))

-- one place more than there may be: a larger number is taken for this one
abbrev pub too_many : ℕ
too_many = 65536

-- the number that the digits write behind those that wrote v
abbrev pub number_on : ℕ → List ℕ → Option ℕ
number_on v [] = Some v
number_on v (b ∷ bs) = option_and_then (λ d. number_on (min (10 * v + d) too_many) bs) (digit_of b)

-- the number that a word of digits writes
abbrev pub number_of : List ℕ → Option ℕ
number_of [] = None
number_of (b ∷ bs) = number_on 0 (b ∷ bs)
