use Rattle.std.proofs.Common.{◌≡◌, ◌≤◌, ◌+◌}
use Rattle.device_cache.specs.Tables.{caches_of, Keeps}
use Rattle.device_cache.proofs.table.Segments.cut_more.Given as goal

abbrev pub invariant-loop-place : goal.invariant-loop-place
invariant-loop-place l = record {
  bytes : caches_of l.self ≡ caches_of l.initial.self;
  keeps : Keeps l.initial.self l.self;
  cuts : l.initial.self.cuts_left ≤ l.self.cuts_left + l.place-index;
  stores : l.self.stores_left ≡ l.initial.self.stores_left;
}
