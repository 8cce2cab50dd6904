-- What a patch means, given what the inserter below it means.
use Rattle.std.specs.Prelude.{ℕ, List}
use Rattle.inserter.specs.Meaning.{Meaning}
use Rattle.patch.specs.declared.patch.Patch.{Patch}
use Rattle.patch.specs.Patched.{patched}

abbrev pub entries_of : {I : Type 0} → Patch I → List ℕ
entries_of s = s.table.now.entries

abbrev pub means : {I : Type 0} → (I → Meaning) → Patch I → Meaning
means meaning s = patched (entries_of s) (meaning s.below)
