use Rattle.std.proofs.Common.{◌≡◌, ◌<◌, ◌≤◌, ℕ, length, take, drop, vec_len}
use Rattle.std.specs.Prelude.{vec_capacity}
use Rattle.std.specs.List.{sum_by}
use Rattle.device_cache.specs.Internal.Opened.{IsOpened}
use Rattle.device_cache.specs.Internal.Uses.{uses}
use Rattle.device_cache.proofs.opening.lay_out.Given as goal

abbrev pub invariant-loop-memory : goal.invariant-loop-memory
invariant-loop-memory l = record {
  opened : IsOpened l.slots l.memory l.total l.memories.items l.segments.items;
  once : (slot : ℕ) → uses slot l.segments.items ≤ 1;
  later : (slot : ℕ) → l.memory < slot → uses slot l.segments.items ≡ 0;
  total : l.total ≡ sum_by length (take l.memory (drop 1 l.slots));
  memories : vec_len l.memories ≡ l.memory;
  segments : vec_len l.segments ≤ l.memory;
  memories_capacity : vec_capacity l.memories ≡ vec_capacity l.initial.memories;
  capacity : vec_capacity l.segments ≡ vec_capacity l.initial.segments;
}
