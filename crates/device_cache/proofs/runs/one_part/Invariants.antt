use Rattle.std.proofs.Common.{◌≡◌, ℕ, ◌<◌, ◌≤◌, ◌+◌, ◌-◌}
use Rattle.device_cache.specs.Internal.Rows.{seen_part}
use Rattle.device_cache.specs.Places.{place, row_at}
use Rattle.device_cache.proofs.runs.one_part.Given as goal

abbrev pub invariant-loop-at : goal.invariant-loop-at
invariant-loop-at l = record {
  from : l.from < l.at;
  to : l.at ≤ l.to;
  here : l.at < l.to → l.index + 1 ≡ place l.segments l.at;
  done : (x : ℕ) → l.from ≤ x → x < l.at → seen_part (row_at l.segments x) l.agent ≡ l.first.part;
}

abbrev pub decreases-loop-at : goal.decreases-loop-at
decreases-loop-at l = l.to - l.at
