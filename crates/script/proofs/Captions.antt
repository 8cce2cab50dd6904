-- A line read as a caption.
use Rattle.std.proofs.Common.{tests, ◌≡◌, ℕ, List, [], ◌∷◌, Some, None, Option, Ok, Err, Result, refl, arith}
use Rattle.script.specs.declared.lines.BadLine.{BadLine}
use Rattle.script.specs.declared.lines.BadLine.TheVariants.{Channel, Text}
use Rattle.script.specs.Lines.{letter_and_text, channel_at, parsed}

abbrev pub texted : List ℕ → ℕ → Result (ℕ × List ℕ) BadLine
texted [] n = Err Text
texted (x ∷ xs) n = Ok (n, x ∷ xs)

abbrev pub channelled : Option ℕ → List ℕ → Result (ℕ × List ℕ) BadLine
channelled None text = Err Channel
channelled (Some n) text = texted text n

abbrev pub captioned : Option (ℕ × List ℕ) → Result (ℕ × List ℕ) BadLine
captioned None = Err Channel
captioned (Some p) = channelled (channel_at p.0) p.1

-- a line is read letter, channel and text in turn
pub in_turn : (line : List ℕ) → parsed line ≡ captioned (letter_and_text line)
in_turn [] = refl
in_turn (x ∷ []) = grind (arith, tests)
in_turn (x ∷ y ∷ []) = grind (arith, tests)
in_turn (x ∷ y ∷ z ∷ zs) = grind (arith, tests)
