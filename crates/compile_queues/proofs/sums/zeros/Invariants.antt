use Rattle.std.proofs.Common.{◌≡◌, replicate}
use Rattle.compile_queues.proofs.sums.zeros.Given as goal

abbrev pub invariant-loop-queue : goal.invariant-loop-queue
invariant-loop-queue l = l.zeros ≡ replicate l._queue 0
