use Rattle.device_drive.proofs.run.run_all.Given as goal
use Rattle.device_drive.specs.Internal.Keepers.{Advanced, Leads}
use Rattle.device_model.specs.Devices.{Device, NoneBegun}
use Rattle.device_model.specs.Rounds.{to_do}

abbrev pub invariant-loop-node : goal.invariant-loop-node
invariant-loop-node g l = record {
  advanced : Advanced l.initial.device l.device l.initial.keeper l.keeper;
  idle : NoneBegun l.device;
  leads : (new : Device) → Leads l.device l.keeper new → Leads l.initial.device l.initial.keeper new;
}

abbrev pub decreases-loop-node : goal.decreases-loop-node
decreases-loop-node g l = to_do l.device
