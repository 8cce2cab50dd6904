-- What a storage does when bytes are put into it.
use Rattle.std.specs.Prelude.{◌≡◌, ℕ, List, ◌++◌, replicate, ◌≢◌}
use Rattle.inserter.specs.Rules.{Places}

-- n bytes b join channel c
pub record Grown (c n b : ℕ) (held : ℕ → List ℕ) (free : ℕ → ℕ) (held' : ℕ → List ℕ) (free' : ℕ → ℕ) : Type 0 where
  pub here : held' c ≡ held c ++ replicate n b
  pub there : (k : ℕ) → (k ≢ c) → held' k ≡ held k
  pub places : Places c n free free'
