-- What the commands of a valid frame name.
use Rattle.std.specs.Prelude.{List, ◌<◌, ◌≤◌, length}
use Rattle.std.specs.List.{All}
use Rattle.base.specs.Operands.{operands_of}
use Rattle.frame.specs.Numbered.{NumberedFrame}
use Rattle.compile_groups.specs.Commands.{all_shapes}
use Rattle.compile_groups.specs.declared.command.Command.{Command}

-- they are few; each is on a queue that there is, and each operand has a shape
pub record AreKnown (frame : NumberedFrame) (commands : List Command) : Type 0 where
  pub few : length commands ≤ 288
  pub queues : All (λ command. command.queue < length frame.queues) commands
  pub operands : All (λ command. All (λ r. r < length (all_shapes frame)) (operands_of command.op)) commands
