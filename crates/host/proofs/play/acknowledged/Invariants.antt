use Rattle.std.proofs.Common.{◌≡◌}
use Rattle.host.proofs.Giving.{shown_for}
use Rattle.host.proofs.play.acknowledged.Given as goal

abbrev pub invariant-loop-past : goal.invariant-loop-past
invariant-loop-past g l = g.I.Inserter.meaning l.inserter ≡ shown_for g.I.Inserter.delay l._past l.fn.cell (g.I.Inserter.meaning l.initial.inserter)
