-- A word's digits, read one after the other.
use Rattle.std.proofs.Common.{◌≡◌, ℕ, zero, suc, ◌<◌, eqb, List, [], ◌∷◌, length, get_or, Some, None, refl, ◌∙◌, arith}
use Rattle.std.proofs.lemmas.Bool.{cond-true, eq-eqb}
use Rattle.script.specs.Digits.{digit_of, digits_of, eight_digits}

-- the letters of the word have these values
abbrev pub Read : List ℕ → List ℕ → Type 0
Read word values = (i : ℕ) → i < length word → digit_of (get_or word i 0) ≡ Some (get_or values i 0)

all_read : (word values : List ℕ) → length word ≡ length values → Read word values → digits_of word ≡ Some values
all_read [] [] n r = refl
all_read [] (v ∷ vs) n r = absurd (omega arith)
all_read (b ∷ bs) [] n r = absurd (omega arith)
all_read (b ∷ bs) (v ∷ vs) n r = grind (arith, r 0 (omega arith), all_read bs vs (omega arith) (λ j l. r (suc j) (omega arith)))

-- a letter that is no digit spoils the word
pub none_at : (word : List ℕ) (i : ℕ) → i < length word → digit_of (get_or word i 0) ≡ None → digits_of word ≡ None
none_at [] i h e = absurd (omega arith)
none_at (b ∷ bs) zero h e = grind arith
none_at (b ∷ bs) (suc i) h e = grind (arith, none_at bs i (omega arith) e)

module _ (word : List ℕ) (a b c d e f g h : ℕ) (long : length word ≡ 8)
    (at_0 : digit_of (get_or word 0 0) ≡ Some a) (at_1 : digit_of (get_or word 1 0) ≡ Some b)
    (at_2 : digit_of (get_or word 2 0) ≡ Some c) (at_3 : digit_of (get_or word 3 0) ≡ Some d)
    (at_4 : digit_of (get_or word 4 0) ≡ Some e) (at_5 : digit_of (get_or word 5 0) ≡ Some f)
    (at_6 : digit_of (get_or word 6 0) ≡ Some g) (at_7 : digit_of (get_or word 7 0) ≡ Some h) where
  each : Read word (a ∷ b ∷ c ∷ d ∷ e ∷ f ∷ g ∷ h ∷ [])
  each zero l = at_0
  each (suc zero) l = at_1
  each (suc (suc zero)) l = at_2
  each (suc (suc (suc zero))) l = at_3
  each (suc (suc (suc (suc zero)))) l = at_4
  each (suc (suc (suc (suc (suc zero))))) l = at_5
  each (suc (suc (suc (suc (suc (suc zero)))))) l = at_6
  each (suc (suc (suc (suc (suc (suc (suc zero))))))) l = at_7
  each (suc (suc (suc (suc (suc (suc (suc (suc i)))))))) l = absurd (omega (arith, long, l))

  -- a word of just eight letters, each read as a digit
  pub eight_read : eight_digits word ≡ Some (a ∷ b ∷ c ∷ d ∷ e ∷ f ∷ g ∷ h ∷ [])
  eight_read = cond-true (eqb (length word) 8) (digits_of word) _ (eq-eqb (length word) 8 long) ∙ all_read word (a ∷ b ∷ c ∷ d ∷ e ∷ f ∷ g ∷ h ∷ []) long each
