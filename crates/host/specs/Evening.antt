-- A whole script that is played to an inserter.
use Rattle.std.specs.Prelude.{◌≡◌, ℕ, ◌<◌, cond, List, [], ◌∷◌, ◌++◌, length, Ok, Err, Result, ◌==◌}
use Rattle.inserter.specs.Meaning.{Meaning}
use Rattle.script.specs.declared.lines.BadLine.{BadLine}
use Rattle.script.specs.Lines.{first_line, later_lines, parsed}
use Rattle.host.specs.Lines.{Outcome, Lined}

-- each line of a script is played in order to the inserter as the lines before left it, and told of as `Lined` says
abbrev pub LineByLine : ℕ → List ℕ → Meaning → List Outcome → Meaning → Type 0
LineByLine d script m [] m' = (length script ≡ 0) × (m' ≡ m)
LineByLine d script m (r ∷ rs) m' = (0 < length script) × (m₁ : Meaning) × Lined d (first_line script) m r m₁ × LineByLine d (later_lines script) m₁ rs m'

-- what a caption puts on channel k
abbrev pub text_for : Result (ℕ × List ℕ) BadLine → ℕ → List ℕ
text_for (Ok p) k = cond (k == p.0) p.1 []
text_for (Err e) k = []

-- what a line puts on channel k: its text where it was sent there
abbrev pub line_for : List ℕ → Outcome → ℕ → List ℕ
line_for line (Err e) k = []
line_for line (Ok p) k = text_for (parsed line) k

abbrev pub texts_for : List ℕ → List Outcome → ℕ → List ℕ
texts_for script [] k = []
texts_for script (r ∷ rs) k = line_for (first_line script) r k ++ texts_for (later_lines script) rs k

-- a line was played, and what became of it stands last
abbrev pub Noted : ℕ → List ℕ → List Outcome → Meaning → List Outcome → Meaning → Type 0
Noted d line told m told' m' = (r : Outcome) × (told' ≡ told ++ (r ∷ [])) × Lined d line m r m'

-- what a whole script does, line by line, and what it leaves on each channel
pub record Evening (delay : ℕ) (script : List ℕ) (m : Meaning) (told : List Outcome) (m' : Meaning) : Type 0 where
  pub lines : LineByLine delay script m told m'
  pub held : (k : ℕ) → m'.held k ≡ m.held k ++ texts_for script told k
