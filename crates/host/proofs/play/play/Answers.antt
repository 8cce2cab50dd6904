use Rattle.std.proofs.Common.{get_or, subst}
use Rattle.host.specs.Playing.{Gave, no_cell}
use Rattle.host.proofs.Playing.{one_more, looks_more}
use Rattle.host.proofs.play.play.Goals as goal

pub loop-taken-preserved : goal.loop-taken-preserved
loop-taken-preserved g c =
    let d = g.I.Inserter.delay in
    let means = g.I.Inserter.meaning in
    let cs = c.args.cells.now in
    let i = c.loop-taken.taken in
    let m' = means c.give.new.inserter in (
      one_more d (means c.drop_cable.new.self) cs i (means c.loop-taken.inserter) c.loop-taken.invariant.0 c.loop-taken-test.true m'
          (subst (λ r. Gave r d (get_or cs i no_cell) (means c.loop-taken.inserter) m') c.if-not-give.false c.give.ensures.gave),
      looks_more c.loop-taken.looks i c.cost-each.result c.loop-taken.invariant.1,
    )
