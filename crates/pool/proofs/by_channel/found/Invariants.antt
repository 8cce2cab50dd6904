use Rattle.std.proofs.Common.{◌≡◌, drop}
use Rattle.inserter.specs.Meaning.{at_place}
use Rattle.pool.specs.Pool.{bytes_of}
use Rattle.pool.proofs.by_channel.found.Given as goal

-- the byte is still to come, behind fewer others
abbrev pub invariant-loop-here : goal.invariant-loop-here
invariant-loop-here l = at_place (bytes_of l.channel (drop l.here-index l.records)) l.before ≡ at_place (bytes_of l.channel l.records) l.place
