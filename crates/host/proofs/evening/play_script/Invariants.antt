use Rattle.std.proofs.Common.{length, vec_items}
use Rattle.host.proofs.Telling.{SoFarTold}
use Rattle.host.proofs.evening.play_script.Given as goal

abbrev pub invariant-loop-rest : goal.invariant-loop-rest
invariant-loop-rest g l = SoFarTold g.I.Inserter.delay l.script (g.I.Inserter.meaning l.initial.inserter) (vec_items l.told) l.rest (g.I.Inserter.meaning l.inserter)

abbrev pub decreases-loop-rest : goal.decreases-loop-rest
decreases-loop-rest g l = length l.rest
