-- The lines of a script.
use Rattle.std.specs.Prelude.{ℕ, ◌-◌, Bool, cond, ◌&&◌, ◌||◌, List, [], ◌∷◌, length, drop, Some, None, Option, Ok, Err, Result, ◌==◌, nat_le, nat_lt, slice_index}
use Rattle.script.specs.declared.lines.BadLine.{BadLine}
use Rattle.script.specs.declared.lines.BadLine.TheVariants.{Channel, Text}

-- a line ends before a line end (10), or where the script ends
abbrev pub first_line : List ℕ → List ℕ
first_line [] = []
first_line (x ∷ xs) = cond (x == 10) [] (x ∷ first_line xs)

abbrev pub later_lines : List ℕ → List ℕ
later_lines [] = []
later_lines (x ∷ xs) = cond (x == 10) xs (later_lines xs)

-- a digit 0 to 7, and a blank unless the line ends there
abbrev pub begins_well : List ℕ → Bool
begins_well line = nat_le 48 (slice_index line 0) && (nat_lt (slice_index line 0) 56 && (nat_le (length line) 1 || slice_index line 1 == 32))

-- what stands after the channel and the blank
abbrev pub text_of : List ℕ → List ℕ
text_of line = drop 2 line

-- the letter that a line begins with and what stands after it and a blank, where a blank or nothing follows the letter
abbrev pub letter_and_text : List ℕ → Option (ℕ × List ℕ)
letter_and_text [] = None
letter_and_text (x ∷ []) = Some (x, [])
letter_and_text (x ∷ y ∷ ys) = cond (y == 32) (Some (x, ys)) None

-- the channel that a letter stands for
abbrev pub channel_at : ℕ → Option ℕ
channel_at letter = cond (nat_le 48 letter && nat_lt letter 56) (Some (letter - 48)) None

-- the channel and the text of a line, or why it is no caption
abbrev pub parsed : List ℕ → Result (ℕ × List ℕ) BadLine
parsed line = cond (begins_well line) (cond (nat_lt 2 (length line)) (Ok (slice_index line 0 - 48, text_of line)) (Err Text)) (Err Channel)
