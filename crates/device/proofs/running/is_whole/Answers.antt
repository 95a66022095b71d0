use Rattle.std.proofs.Common.{arith}
use Rattle.device.proofs.Olds.{last_touch}
use Rattle.device.proofs.Sources.{one_more}
use Rattle.device.proofs.running.is_whole.Goals as goal

pub returns : goal.returns
returns c = last_touch c.args.shapes.now c.args.op.now _ c.touch.result (omega (arith, one_more c.args.op.now)) c.touch.ensures
