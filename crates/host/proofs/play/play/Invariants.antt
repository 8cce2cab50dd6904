use Rattle.std.proofs.Common.{◌≡◌, ◌*◌}
use Rattle.host.proofs.Playing.{SoFar}
use Rattle.host.proofs.play.play.Given as goal

abbrev pub invariant-loop-taken : goal.invariant-loop-taken
invariant-loop-taken g l = SoFar g.I.Inserter.delay (g.I.Inserter.meaning l.initial.inserter) l.cells l.taken (g.I.Inserter.meaning l.inserter) × (l.looks ≡ l.taken * l.each)
