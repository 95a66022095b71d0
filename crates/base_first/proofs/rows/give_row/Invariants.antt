use Rattle.std.proofs.Common.{◌≡◌, length}
use Rattle.base_first.specs.Internal.Rows.{Given}
use Rattle.base_first.proofs.rows.give_row.Given as goal

abbrev pub invariant-loop-c : goal.invariant-loop-c
invariant-loop-c l = record {
  size : length l.numbers ≡ length l.fn.numbers;
  given : Given l.fn.set l.c l.fn.width l.fn.base l.fn.i l.fn.numbers l.numbers;
}
