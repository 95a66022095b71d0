use Rattle.std.proofs.Common.{◌≡◌, ◌&&◌, ◌||◌, ℕ, take}
use Rattle.compile_groups.specs.Needs.{has_command}
use Rattle.compile_lifetimes.proofs.reach.add_between.Given as goal
use Rattle.base_reach.specs.Pairs.{has}

abbrev pub invariant-loop-u : goal.invariant-loop-u
invariant-loop-u l = record {
  count : l.rows.count ≡ l.initial.rows.count;
  has : (x y : ℕ) → has l.rows x y ≡ ((has_command x (take l.u-index l.uses) && has_command y l.next) || has l.initial.rows x y);
}
