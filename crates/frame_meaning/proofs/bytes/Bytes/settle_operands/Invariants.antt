use Rattle.std.proofs.Common.{◌≡◌, drop, length}
use Rattle.base.specs.Operands.{operands_of}
use Rattle.frame.specs.Numbered.{numbered}
use Rattle.frame_meaning.specs.Internal.Held.{all_settled}
use Rattle.frame_meaning.proofs.bytes.Bytes.settle_operands.Given as goal

abbrev pub invariant-loop-j : goal.invariant-loop-j
invariant-loop-j l = record {
  count : length l.self ≡ length (numbered l.frame).units;
  settled : all_settled (numbered l.frame).units l.self (drop l.j (operands_of l.op)) ≡ all_settled (numbered l.frame).units l.fn.self (operands_of l.op);
}
