use Rattle.std.proofs.Common.{◌≡◌, length}
use Rattle.traffic.specs.Fetching.{counted, uncounted}
use Rattle.traffic.proofs.fetching.take_counts.Given as goal

abbrev pub invariant-loop-n : goal.invariant-loop-n
invariant-loop-n l = record {
  count : counted l.count l.queue ≡ counted l.fn.waiting l.initial.queue;
  left : uncounted l.queue ≡ uncounted l.initial.queue;
}

abbrev pub decreases-loop-n : goal.decreases-loop-n
decreases-loop-n l = length l.queue
