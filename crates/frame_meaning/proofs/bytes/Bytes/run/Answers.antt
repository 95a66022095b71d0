use Rattle.std.proofs.Common.{◌<◌, ◌+◌, length, drop, subst, sym, ap, ◌∙◌}
use Rattle.std.specs.List.{All}
use Rattle.base.specs.Operands.{destination_of, operands_of}
use Rattle.frame_meaning.specs.Meaning.{after_ops}
use Rattle.frame_meaning.proofs.Lists.{item_first}
use Rattle.frame_meaning.proofs.Runs.{operands_long, still_sized}
use Rattle.frame_meaning.proofs.bytes.Bytes.run.Goals as goal

pub run_op-requires-clause-sized : goal.run_op-requires-clause-sized
run_op-requires-clause-sized c = operands_long c.args.shapes.now c.loop-op.self c.op-item.result c.loop-op.invariant.sized (subst (λ op. All (λ unit. unit < length c.args.shapes.now) (operands_of op)) (sym c.op-item.is) (c.requires.ops c.loop-op.op-index c.op-item.result c.loop-op-test.true).operands)

pub loop-op-preserved : goal.loop-op-preserved
loop-op-preserved c = record {
  bytes = ap (λ b. after_ops c.args.shapes.now b (drop (c.loop-op.op-index + 1) c.args.ops.now)) c.run_op.ensures.bytes ∙ sym (ap (after_ops c.args.shapes.now c.loop-op.self) (item_first c.args.ops.now c.loop-op.op-index c.op-item.result c.loop-op-test.true (sym c.op-item.is))) ∙ c.loop-op.invariant.bytes;
  sized = still_sized c.args.shapes.now c.loop-op.self c.run_op.new.self (destination_of c.op-item.result) _ c.loop-op.invariant.sized c.run_op.ensures.bytes c.run_op.ensures.sized;
}
