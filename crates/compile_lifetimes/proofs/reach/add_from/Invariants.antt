use Rattle.std.proofs.Common.{◌≡◌, ◌==◌, ◌&&◌, ◌||◌, ℕ, take}
use Rattle.compile_groups.specs.Needs.{has_command}
use Rattle.compile_lifetimes.proofs.reach.add_from.Given as goal
use Rattle.base_reach.specs.Pairs.{has}

abbrev pub invariant-loop-v : goal.invariant-loop-v
invariant-loop-v l = record {
  count : l.rows.count ≡ l.initial.rows.count;
  has : (x y : ℕ) → has l.rows x y ≡ ((l.from == x && has_command y (take l.v-index l.next)) || has l.initial.rows x y);
}
