use Rattle.std.proofs.Common.{◌<◌, length, subst, sym, ap, ◌∙◌}
use Rattle.base.specs.Operands.{operands_of}
use Rattle.frame.specs.Numbered.{numbered}
use Rattle.frame_meaning.specs.Internal.Held.{all_released, is_wanted, ops_from}
use Rattle.frame_meaning.proofs.Settling.{operand_within, release_on, released-length}
use Rattle.frame_meaning.proofs.bytes.Bytes.release_operands.Goals as goal

pub release-requires-clause-unit : goal.release-requires-clause-unit
release-requires-clause-unit c = subst (λ m. c.operand.result < m) (sym c.loop-j.invariant.count) (operand_within (operands_of c.args.op.now) c.loop-j.j c.operand.result (length c.args.self.now) c.requires.operands (subst (λ m. c.loop-j.j < m) c.touch_count-j-end.ensures c.loop-j-test.true) c.operand.ensures)

pub loop-j-preserved : goal.loop-j-preserved
loop-j-preserved c =
    let n = numbered c.args.frame.now in
    let wanted = is_wanted n.exports (ops_from n.passes c.args.pass c.args.next) in
    record {
      count = ap length c.release.ensures ∙ released-length wanted c.loop-j.self c.operand.result ∙ c.loop-j.invariant.count;
      released = release_on wanted (operands_of c.args.op.now) c.loop-j.j c.operand.result c.loop-j.self c.release.new.self (all_released wanted c.args.self.now (operands_of c.args.op.now)) (subst (λ m. c.loop-j.j < m) c.touch_count-j-end.ensures c.loop-j-test.true) c.operand.ensures c.release.ensures c.loop-j.invariant.released;
    }
