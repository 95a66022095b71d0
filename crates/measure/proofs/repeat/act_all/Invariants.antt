use Rattle.std.proofs.Common.{◌≡◌, length}
use Rattle.measure.specs.Internal.Tables.{image, HoldsImage}
use Rattle.measure.proofs.repeat.act_all.Given as goal

abbrev pub invariant-loop-time : goal.invariant-loop-time
invariant-loop-time l = record {
  holds : HoldsImage l.table;
  out : length l.out ≡ image;
}
