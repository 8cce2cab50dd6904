use Rattle.std.proofs.Common.{◌≡◌, take, vec_items}
use Rattle.inserter.specs.Meaning.{held_on}
use Rattle.listing.proofs.held.Given as goal

abbrev pub invariant-loop-place : goal.invariant-loop-place
invariant-loop-place g l = vec_items l.bytes ≡ take l.place (held_on (g.I.Inserter.meaning l.inserter) l.channel)
