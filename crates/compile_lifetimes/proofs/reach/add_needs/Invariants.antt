use Rattle.std.proofs.Common.{◌≡◌, ◌||◌, ℕ}
use Rattle.std.specs.List.{list_any, range_with_len}
use Rattle.compile_lifetimes.specs.Internal.Leading.{needs_by}
use Rattle.compile_lifetimes.proofs.reach.add_needs.Given as goal
use Rattle.base_reach.specs.Pairs.{has}

abbrev pub invariant-loop-g : goal.invariant-loop-g
invariant-loop-g l = record {
  count : l.rows.count ≡ l.initial.rows.count;
  has : (x y : ℕ) → has l.rows x y ≡ (list_any (needs_by l.groups x y) (range_with_len 0 l.g) || has l.initial.rows x y);
}
