use Rattle.base.specs.Touches.{touches_of}
use Rattle.check_access.proofs.Growing.{one_part}
use Rattle.check_access.specs.Effects.{touch_accesses}
use Rattle.check_access.proofs.command.command_accesses.Goals as goal

pub loop-k-preserved : goal.loop-k-preserved
loop-k-preserved c =
    let shapes = c.args.shapes.now in
    one_part (touch_accesses shapes c.args.queue) (touches_of shapes c.args.op.now) c.loop-k.k c.touch.result c.loop-k.accesses c.push_touch.new.accesses
    c.loop-k.invariant c.touch.ensures c.in_ok-push_touch.ensures
