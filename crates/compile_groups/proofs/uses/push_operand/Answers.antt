use Rattle.std.proofs.Common.{length}
use Rattle.compile_groups.proofs.Operands.{touch_within}
use Rattle.compile_groups.proofs.uses.push_operand.Goals as goal

pub use_of-requires : goal.use_of-requires
use_of-requires c = touch_within c.args.shapes.now c.args.command.now.op c.args.k (length c.args.shapes.now) c.touch-touch.result c.requires.shapes c.touch-touch.ensures
