use Rattle.std.proofs.Common.{◌≡◌, length}
use Rattle.base_first.specs.Internal.Rows.{Copied}
use Rattle.base_first.proofs.rows.copy_rows.Given as goal

abbrev pub invariant-loop-c : goal.invariant-loop-c
invariant-loop-c l = record {
  size : length l.numbers ≡ length l.fn.numbers;
  copied : Copied l.c l.fn.width l.fn.to l.fn.from l.fn.numbers l.numbers;
}
