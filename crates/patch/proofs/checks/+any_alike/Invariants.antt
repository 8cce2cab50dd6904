use Rattle.std.proofs.Common.{length}
use Rattle.patch.proofs.checks.+any_alike.Given as goal

abbrev pub decreases-any_alike : goal.decreases-any_alike
decreases-any_alike l = length l.entries.now
