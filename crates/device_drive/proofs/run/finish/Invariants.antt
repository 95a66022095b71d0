use Rattle.std.proofs.Common.{◌≡◌, ◌+◌}
use Rattle.device_drive.proofs.run.finish.Given as goal
use Rattle.device_drive.specs.Driven.{after_moves}
use Rattle.device_drive.specs.Internal.Keepers.{to_come, Advanced, Calm}

abbrev pub invariant-loop-move : goal.invariant-loop-move
invariant-loop-move l = record {
  advanced : Advanced l.initial.device l.device l.initial.keeper l.keeper;
  calm : Calm l.initial.device l.device;
  made : l.device.moves + l._move ≡ l.initial.device.moves;
  all : after_moves l.device (to_come l.keeper l.device.moves) ≡ after_moves l.initial.device (to_come l.initial.keeper l.initial.device.moves);
}
