use Rattle.std.proofs.Common.{eqb, not, rules, tests, arith}
use Rattle.std.proofs.lemmas.Bool.Decides.{nat_tests}
use Rattle.std.proofs.lemmas.Iterator.{YieldsList-from_slice}
use Rattle.std.proofs.lemmas.Iterator.Search.{position_from_yields_List}
use Rattle.std.proofs.lemmas.List.Sums.{prefix_len-le-length}
use Rattle.patch.proofs.Entries.{place_of-position}
use Rattle.patch.proofs.table.place_of.Goals as goal

pub returns-clause-place : goal.returns-clause-place
returns-clause-place c =
    let es = c.args.entries.now in
    let w = c.args.wanted in
    let p = position_from_yields_List (λ x. eqb x w) _ _ c.position.result c.position.ensures.ran (YieldsList-from_slice es cc) (λ x b q k. search (rules, tests)) in
    let q = place_of-position es w in
    let n = prefix_len-le-length (λ x. not (eqb x w)) es in
    grind (arith, nat_tests)
