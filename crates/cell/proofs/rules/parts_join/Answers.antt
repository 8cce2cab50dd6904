use Rattle.cell.proofs.Laws.{reached-++, added-++, in_hand-++, expanded-++}
use Rattle.cell.proofs.rules.parts_join.Goals as goal

pub returns : goal.returns
returns c =
    record { reading = record { place = reached-++; bytes = added-++ }; expansion = record { count = in_hand-++; bytes = expanded-++ } }
