use Rattle.std.proofs.Common.{length, sym, ◌∙◌, subst}
use Rattle.std.proofs.lemmas.Bool.{leb-true}
use Rattle.host.specs.Playing.{Plays}
use Rattle.host.proofs.Delivering.{arrives}
use Rattle.host.proofs.deliver.deliver.Goals as goal

pub returns : goal.returns
returns g c =
    let d = g.I.Inserter.delay in
    let means = g.I.Inserter.meaning in
    let m = means c.args.inserter.now in
    let channel = c.args.caption.channel in
    let p = c.play.result in
    arrives d channel.number c.args.caption.text.now channel.kept m (means c.play.new.inserter) p
    (leb-true (length c.args.caption.text.now) (m.free channel.number) (sym c.if-not-has_room.ensures))
    (subst (λ cs. Plays d m cs (means c.play.new.inserter) p.taken p.looks) (c.deref.ensures.value ∙ c.in_ok-cells.ensures.cells) c.play.ensures)
