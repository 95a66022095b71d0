use Rattle.std.proofs.Common.{◌≡◌, ◌+◌, drop}
use Rattle.program.specs.Internal.Counts.{batches_count}
use Rattle.program.proofs.limits.after_batches.Given as goal

abbrev pub invariant-loop-batch : goal.invariant-loop-batch
invariant-loop-batch l = l.left + batches_count l.batches ≡ l.room + batches_count (drop l.batch-index l.batches)
