use Rattle.std.proofs.Common.{arith}
use Rattle.compile_groups.proofs.Operands.{operand_more}
use Rattle.compile_groups.proofs.uses.push_command.Goals as goal

pub loop-k-preserved : goal.loop-k-preserved
loop-k-preserved c =
    let end = c.touch_count-k-end.ensures in
    let below = c.loop-k-test.true in
    operand_more c.args.shapes.now c.args.units c.args.c c.args.command.now c.loop-k.k c.loop-k.list c.push_operand.new.list _ (omega (arith, end, below)) c.loop-k.invariant c.in_ok-push_operand.ensures
