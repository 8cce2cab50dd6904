use Rattle.std.proofs.Common.{length, vec_items, sym}
use Rattle.std.proofs.lemmas.Bool.{eqb-true}
use Rattle.host.proofs.Telling.{all_told}
use Rattle.host.proofs.evening.play_script.Goals as goal

pub returns : goal.returns
returns g c =
    let means = g.I.Inserter.meaning in
    all_told g.I.Inserter.delay c.args.script.now (means c.args.inserter.now) (vec_items c.loop-rest.told) c.loop-rest.rest.now (means c.loop-rest.inserter) c.loop-rest.invariant
    (eqb-true (length c.loop-rest.rest.now) 0 (sym c.loop-rest-test.ensures))
