use Rattle.std.proofs.Common.{◌<◌, ◌^◌, ◌↔◌, drop, length}
use Rattle.device_drive.proofs.tending.follow.Given as goal
use Rattle.device_drive.specs.Internal.Following.{Makes}

abbrev pub invariant-loop-event : goal.invariant-loop-event
invariant-loop-event l = record {
  rest : Makes l.events l.initial.keeper l.count ↔ Makes (drop l.event-index l.events) l.keeper l.left;
  few : length l.keeper.sizes < 2 ^ 32;
}
