use Rattle.std.proofs.Common.{◌≡◌}
use Rattle.device_cache.specs.Tables.{caches_of}
use Rattle.device.proofs.syncing.move_agents.Given as goal
use Rattle.device.specs.Internal.Syncs.{passes, moved_agents}
use Rattle.device.specs.Internal.Tables.{HasCut, Stays}

abbrev pub invariant-loop-agent : goal.invariant-loop-agent
invariant-loop-agent l = record {
  cut : HasCut l.table l.view;
  bytes : caches_of l.table ≡ moved_agents l.view l.kind (passes l.agents) l.agent l.scope (caches_of l.initial.table);
  stays : Stays l.initial.table l.table;
}
