use Rattle.std.proofs.Common.{◌≡◌, drop, length}
use Rattle.base.specs.Operands.{operands_of}
use Rattle.frame.specs.Numbered.{numbered}
use Rattle.frame_meaning.specs.Internal.Held.{all_released, is_wanted, ops_from}
use Rattle.frame_meaning.proofs.bytes.Bytes.release_operands.Given as goal

abbrev pub invariant-loop-j : goal.invariant-loop-j
invariant-loop-j l = record {
  count : length l.self ≡ length l.fn.self;
  released : all_released (is_wanted (numbered l.frame).exports (ops_from (numbered l.frame).passes l.pass l.next)) l.self (drop l.j (operands_of l.op)) ≡ all_released (is_wanted (numbered l.frame).exports (ops_from (numbered l.frame).passes l.pass l.next)) l.fn.self (operands_of l.op);
}
