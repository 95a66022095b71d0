use Rattle.std.proofs.Common.{◌≡◌, ◌&&◌, ◌||◌, nat_lt, ℕ}
use Rattle.compile_lifetimes.specs.Internal.Leading.{comes_later}
use Rattle.compile_lifetimes.proofs.reach.add_queues.Given as goal
use Rattle.base_reach.specs.Pairs.{has}

abbrev pub invariant-loop-to : goal.invariant-loop-to
invariant-loop-to l = record {
  count : l.rows.count ≡ l.initial.rows.count;
  has : (x y : ℕ) → has l.rows x y ≡ ((nat_lt y l.to && comes_later l.commands x y) || has l.initial.rows x y);
}
