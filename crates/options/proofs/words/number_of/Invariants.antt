use Rattle.std.proofs.Common.{◌≡◌, ◌≤◌, drop}
use Rattle.options.specs.Words.{too_many, number_on, number_of}
use Rattle.options.proofs.words.number_of.Given as goal

abbrev pub invariant-loop-letter : goal.invariant-loop-letter
invariant-loop-letter l = (number_of l.text ≡ number_on l.value (drop l.letter-index l.text)) × (l.value ≤ too_many)
