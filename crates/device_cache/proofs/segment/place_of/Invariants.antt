use Rattle.std.proofs.Common.{ℕ, ◌<◌, ◌≤◌, ◌-◌, length}
use Rattle.device_cache.specs.Places.{segment_at}
use Rattle.device_cache.proofs.segment.place_of.Given as goal

abbrev pub invariant-loop-low : goal.invariant-loop-low
invariant-loop-low l = record {
  order : l.low ≤ l.high;
  inside : l.high ≤ length l.segments;
  below : (j : ℕ) → j < l.low → (segment_at l.segments j).end ≤ l.at;
  above : l.high < length l.segments → l.at < (segment_at l.segments l.high).end;
}

abbrev pub decreases-loop-low : goal.decreases-loop-low
decreases-loop-low l = l.high - l.low
