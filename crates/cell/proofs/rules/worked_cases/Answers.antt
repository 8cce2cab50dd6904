use Rattle.cell.proofs.Cases.{all}
use Rattle.cell.proofs.rules.worked_cases.Goals as goal

pub returns : goal.returns
returns c = all
