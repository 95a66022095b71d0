use Rattle.std.proofs.Common.{◌≡◌, length}
use Rattle.base_first.specs.Internal.Rows.{Taken}
use Rattle.base_first.proofs.rows.take_rows.Given as goal

abbrev pub invariant-loop-c : goal.invariant-loop-c
invariant-loop-c l = record {
  size : length l.numbers ≡ length l.fn.numbers;
  taken : Taken l.fn.set l.c l.fn.width l.fn.base l.fn.i l.fn.numbers l.numbers;
}
