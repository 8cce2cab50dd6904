use Rattle.std.proofs.Common.{◌≡◌, vec_items, sym, subst, arith}
use Rattle.std.proofs.lemmas.Grind.{common_steps}
use Rattle.script.specs.Encoding.{caption_cells, Spells}
use Rattle.script.proofs.Spelling.{spells}
use Rattle.script.proofs.encode.encode.Goals as goal

pub returns-clause-reading : goal.returns-clause-reading
returns-clause-reading c =
    let channel = c.args.caption.channel.number in
    let text = c.args.caption.text.now in
    let cells : vec_items c.push_text.new.cells ≡ caption_cells channel text = grind (arith, common_steps) in
    subst (λ v. Spells v channel text) (sym cells) (spells channel text c.args.caption.channel.kept)
