use Rattle.std.proofs.Common.{◌≡◌, ◌++◌, drop, vec_items}
use Rattle.script.specs.Encoding.{runs, text_cells}
use Rattle.script.proofs.encode.push_text.Given as goal

-- what is written, then what the run at hand and the rest of the text will be, is the whole text
abbrev pub invariant-loop-next : goal.invariant-loop-next
invariant-loop-next l = vec_items l.cells ++ runs l.run.times l.run.byte (drop l.next-index l.rest) ≡ vec_items l.initial.cells ++ text_cells l.text
