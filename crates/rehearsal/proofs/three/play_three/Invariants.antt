use Rattle.std.proofs.Common.{length}
use Rattle.rehearsal.proofs.three.play_three.Given as goal

abbrev pub decreases-loop-first : goal.decreases-loop-first
decreases-loop-first g l = length l.rest
