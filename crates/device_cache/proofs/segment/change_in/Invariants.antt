use Rattle.std.proofs.Common.{◌≡◌, ℕ, ◌<◌, ◌≤◌, length}
use Rattle.device_cache.specs.Places.{segment_at}
use Rattle.device_cache.specs.Internal.Segments.{changed_in}
use Rattle.device_cache.specs.Internal.Uses.{uses, Counts}
use Rattle.device_cache.proofs.segment.change_in.Given as goal

abbrev pub invariant-loop-k : goal.invariant-loop-k
invariant-loop-k l = record {
  counted : Counts l.counts (λ slot. uses slot l.segments);
  done : (j : ℕ) → j < l.k → j < length l.segments → segment_at l.segments j ≡ changed_in l.first l.k l.agent l.change j (segment_at l.initial.segments j);
  ahead : (j : ℕ) → l.k ≤ j → segment_at l.segments j ≡ segment_at l.initial.segments j;
}
