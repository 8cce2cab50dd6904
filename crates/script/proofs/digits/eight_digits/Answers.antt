use Rattle.std.proofs.Common.{sym, rules, arith}
use Rattle.script.proofs.Digiting.{eight_read}
use Rattle.script.proofs.digits.eight_digits.Goals as goal

pub returns-in_ok-digit-in-len8-8 : goal.returns-in_ok-digit-in-len8-8
returns-in_ok-digit-in-len8-8 c =
    sym (eight_read c.args.word.now _ _ _ _ _ _ _ _ (omega (arith, c.in-len8.len_at_least, c.in-len8.len_below))
    (search rules) (search rules) (search rules) (search rules) (search rules) (search rules) (search rules) (search rules))
