use Rattle.std.proofs.Common.{◌≡◌, ◌≤◌, ◌+◌, ◌*◌, length}
use Rattle.test_low.specs.declared.caches.TheConstants.{AGENTS, LARGE, SMALL, EVENTS}
use Rattle.device_cache.specs.Tables.{size_of, junk_of}
use Rattle.test_low.proofs.caches.rounds.Given as goal

abbrev pub invariant-loop-k : goal.invariant-loop-k
invariant-loop-k g l = record {
  agents : l.table.agents ≡ AGENTS;
  memories : length l.table.memories ≡ 2;
  large : size_of l.table 0 ≡ LARGE;
  small : size_of l.table 1 ≡ SMALL;
  junk : length (junk_of l.table) ≡ LARGE;
  cuts : 4 * EVENTS ≤ l.table.cuts_left + 4 * l.k;
  stores : 2 * EVENTS ≤ l.table.stores_left + 2 * l.k;
}
