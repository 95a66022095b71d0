use Rattle.kernel.specs.Internal.Sums.{AreColumns, AreSmall}
use Rattle.kernel.proofs.byte_blur.sum_columns.Given as goal

abbrev pub invariant-loop-x : goal.invariant-loop-x
invariant-loop-x l = AreColumns l.grid l.src l.y l.x l.sums × AreSmall l.x l.sums
