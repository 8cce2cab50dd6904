use Rattle.std.proofs.Common.{rules}
use Rattle.lanes.proofs.Laning.{stored}
use Rattle.lanes.proofs.lane_bytes.LaneBytes.append.Goals as goal

pub returns-clause-grown : goal.returns-clause-grown
returns-clause-grown c =
    let a = c.args in
    let s = a.self.now in
    stored s.bytes.now s.lens a.channel a.n a.byte (search rules) c.requires.0 c.requires.1 _ _ _ c.next_place-at.ensures c.used-have.ensures c.spread.ensures
