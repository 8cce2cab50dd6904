use Rattle.patch.proofs.Patching.{looked}
use Rattle.patch.proofs.patch.PatchInserter.look.Goals as goal

pub returns-clause-looked : goal.returns-clause-looked
returns-clause-looked g c =
    let shown = c.args.shown in
    let below = rw c.told-told.ensures at c.look.ensures in
    looked c.args.self.now.table.now g.I.Inserter.delay (g.I.Inserter.meaning c.args.self.now.below) shown.lines shown.byte _ c.look.result below
