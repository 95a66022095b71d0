use Rattle.std.proofs.Common.{◌≡◌, drop}
use Rattle.device_cache.specs.Tables.{caches_of, junk_of}
use Rattle.device_nodes.specs.Controls.{Agrees}
use Rattle.device.proofs.syncing.leave_junk.Given as goal
use Rattle.device.specs.Internal.Syncs.{junked}
use Rattle.device.specs.Internal.Tables.{HasCut, Stays}
use Rattle.device_model.specs.States.{State}

-- what is still to come leads where all leads
abbrev pub invariant-loop-access : goal.invariant-loop-access
invariant-loop-access l = record {
  cut : HasCut l.table l.control.view;
  bytes : (s : State) → Agrees l.control s → junked l.control.view s l.node (junk_of l.initial.table) (drop l.access-index l.accesses) (caches_of l.table) ≡ junked l.control.view s l.node (junk_of l.initial.table) l.accesses (caches_of l.initial.table);
  stays : Stays l.initial.table l.table;
}
