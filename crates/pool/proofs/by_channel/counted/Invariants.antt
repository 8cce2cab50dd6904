use Rattle.std.proofs.Common.{◌≡◌, ◌+◌, ◌≤◌, length, drop}
use Rattle.pool.specs.Pool.{bytes_of}
use Rattle.pool.proofs.by_channel.counted.Given as goal

-- what is counted, and those that the rest will be, are all
abbrev pub invariant-loop-here : goal.invariant-loop-here
invariant-loop-here l = (l.count + length (bytes_of l.channel (drop l.here-index l.records)) ≡ length (bytes_of l.channel l.records)) × (l.count ≤ l.here-index)
