use Rattle.std.proofs.Common.{min, arith}
use Rattle.pool.specs.Pool.{left}
use Rattle.pool.proofs.Pooling.{grown}
use Rattle.pool.proofs.records.PoolRecordsStorage.put.Goals as goal

pub returns-clause-grown : goal.returns-clause-grown
returns-clause-grown c =
    let a = c.args in
    let s = a.self.now in
    let t = c.append.new.self in
    grown s.records.now s.used a.channel (min a.n (left s.records.now s.used)) a.byte (omega arith) t.records.now t.used cc
