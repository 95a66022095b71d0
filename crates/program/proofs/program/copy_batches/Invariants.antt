use Rattle.std.proofs.Common.{◌≡◌, take}
use Rattle.program.proofs.program.copy_batches.Given as goal

abbrev pub invariant-loop-batch : goal.invariant-loop-batch
invariant-loop-batch l = l.copies ≡ take l.batch-index l.batches
