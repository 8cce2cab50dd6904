use Rattle.std.proofs.Common.{◌+◌, ◌-◌, rules, arith}
use Rattle.handshake.proofs.Spreading.{all_alike, written_over}
use Rattle.handshake.proofs.spread.spread.Goals as goal

pub returns-then-n-items : goal.returns-then-n-items
returns-then-n-items g c =
    let a = c.args in
    let f = c.fill_with.ensures in
    written_over a.items.now a.at a.n (a.at + a.n - a.at) a.item (omega arith) (omega arith) c.fill_with.new.self f.len (all_alike _ a.item _ (λ y q h. search rules) c.fill_with.new.self f.ran.0 f.ran.1)
