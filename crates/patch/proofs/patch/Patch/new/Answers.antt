use Rattle.patch.proofs.Patching.{new_same}
use Rattle.patch.proofs.patch.Patch.new.Goals as goal

pub returns-clause-new : goal.returns-clause-new
returns-clause-new g c = λ n. rw c.over.ensures (new_same c.args.table.now g.I.Inserter.delay (g.I.Inserter.meaning c.args.below) n)
