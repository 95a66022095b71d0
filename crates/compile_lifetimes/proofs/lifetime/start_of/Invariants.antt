use Rattle.std.proofs.Common.{ℕ, ◌<◌, ◌≤◌, ◌-◌, length}
use Rattle.std.specs.List.{All}
use Rattle.compile_groups.specs.Needs.{group_at}
use Rattle.compile_lifetimes.proofs.lifetime.start_of.Given as goal

abbrev pub invariant-loop-low : goal.invariant-loop-low
invariant-loop-low l = record {
  order : l.low ≤ l.high;
  within : l.high ≤ length l.groups.groups;
  below : (g : ℕ) → g < l.low → All (λ u. u.unit < l.unit) (group_at l.groups g);
  above : (g : ℕ) → l.high ≤ g → All (λ u. l.unit ≤ u.unit) (group_at l.groups g);
}

abbrev pub decreases-loop-low : goal.decreases-loop-low
decreases-loop-low l = l.high - l.low
