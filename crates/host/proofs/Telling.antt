-- A script, line by line.
use Rattle.std.proofs.Common.{◌≡◌, ℕ, List, [], ◌++◌, length, sym, refl, ap, ◌∙◌, subst, append-nil}
use Rattle.inserter.specs.Meaning.{Meaning}
use Rattle.host.specs.Lines.{Outcome}
use Rattle.host.specs.Evening.{LineByLine, texts_for, Evening}

-- so far: whatever is told of the rest completes what was told of the script
pub record SoFarTold (d : ℕ) (script : List ℕ) (m : Meaning) (told : List Outcome) (rest : List ℕ) (m' : Meaning) : Type 0 where
  pub lines : (rs : List Outcome) (m'' : Meaning) → LineByLine d rest m' rs m'' → LineByLine d script m (told ++ rs) m''
  pub held : (rs : List Outcome) (k : ℕ) → m'.held k ++ texts_for rest rs k ≡ m.held k ++ texts_for script (told ++ rs) k

module _ (d : ℕ) (script : List ℕ) (m : Meaning) (told : List Outcome) (rest : List ℕ) (m₁ : Meaning) (so : SoFarTold d script m told rest m₁) where
  pub all_told : length rest ≡ 0 → Evening d script m told m₁
  all_told e = record {
    lines = subst (λ x. LineByLine d script m x m₁) (append-nil told) (so.lines [] m₁ (e, refl));
    held = λ k. sym (append-nil (m₁.held k)) ∙ so.held [] k ∙ ap (λ z. m.held k ++ texts_for script z k) (append-nil told);
  }
