use Rattle.std.proofs.Common.{◌≡◌, ℕ, ◌<◌, ◌≤◌, ◌+◌, ◌-◌, get_or}
use Rattle.device_cache.specs.Internal.Rows.{seen_part}
use Rattle.device_cache.specs.Places.{place, row_at}
use Rattle.device_cache.specs.Tables.{byte_in}
use Rattle.device_cache.proofs.runs.copy_out.Given as goal

abbrev pub invariant-loop-at : goal.invariant-loop-at
invariant-loop-at l = record {
  from : l.from ≤ l.at;
  to : l.at ≤ l.to;
  here : l.at < l.to → l.index ≡ place l.segments l.at;
  done : (k : ℕ) → k < l.at - l.from → get_or l.out k 0 ≡ byte_in l.slots (seen_part (row_at l.segments (l.from + k)) l.agent) (l.from + k);
}

abbrev pub decreases-loop-at : goal.decreases-loop-at
decreases-loop-at l = l.to - l.at
