use Rattle.std.proofs.Common.{◌≡◌, ◌||◌, ℕ}
use Rattle.compile_lifetimes.specs.Internal.Leading.{leads_to}
use Rattle.compile_lifetimes.proofs.reach.add_earlier.Given as goal
use Rattle.base_reach.specs.Pairs.{has}

abbrev pub invariant-loop-from : goal.invariant-loop-from
invariant-loop-from l = record {
  count : l.rows.count ≡ l.initial.rows.count;
  has : (x y : ℕ) → has l.rows x y ≡ (leads_to l.commands l.from l.to x y || has l.initial.rows x y);
}
