use Rattle.std.proofs.Common.{◌<◌, length, subst, ap, ◌∙◌}
use Rattle.base.specs.Operands.{operands_of}
use Rattle.frame.specs.Numbered.{numbered}
use Rattle.frame_meaning.specs.Internal.Held.{all_settled}
use Rattle.frame_meaning.proofs.Settling.{operand_within, settle_on, settled-length}
use Rattle.frame_meaning.proofs.bytes.Bytes.settle_operands.Goals as goal

pub settle-requires-clause-unit : goal.settle-requires-clause-unit
settle-requires-clause-unit c = operand_within (operands_of c.args.op.now) c.loop-j.j c.operand.result (length (numbered c.args.frame.now).units) c.requires.operands (subst (λ m. c.loop-j.j < m) c.touch_count-j-end.ensures c.loop-j-test.true) c.operand.ensures

pub loop-j-preserved : goal.loop-j-preserved
loop-j-preserved c =
    let units = (numbered c.args.frame.now).units in
    record {
      count = ap length c.in_ok-settle.ensures ∙ settled-length units c.loop-j.self c.operand.result ∙ c.loop-j.invariant.count;
      settled = settle_on units (operands_of c.args.op.now) c.loop-j.j c.operand.result c.loop-j.self c.settle.new.self (all_settled units c.args.self.now (operands_of c.args.op.now)) (subst (λ m. c.loop-j.j < m) c.touch_count-j-end.ensures c.loop-j-test.true) c.operand.ensures c.in_ok-settle.ensures c.loop-j.invariant.settled;
    }
