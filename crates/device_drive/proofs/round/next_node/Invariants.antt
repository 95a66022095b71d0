use Rattle.std.proofs.Common.{◌<◌, ℕ}
use Rattle.device_drive.proofs.round.next_node.Given as goal
use Rattle.device_model.specs.Devices.{NoneReady}

abbrev pub invariant-loop-queue : goal.invariant-loop-queue
invariant-loop-queue l = (r : ℕ) → r < l.queue → NoneReady l.device r
