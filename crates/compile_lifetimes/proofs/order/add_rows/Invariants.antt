use Rattle.std.proofs.Common.{◌≡◌, ◌<◌, ◌&&◌, ◌||◌, nat_lt, ℕ}
use Rattle.compile_lifetimes.specs.Internal.Lifetimes.{is_before}
use Rattle.compile_lifetimes.proofs.order.add_rows.Given as goal
use Rattle.compile_heap.specs.Pairs.{has}
use Rattle.base_reach.specs.Pairs.{has as reaches}

abbrev pub invariant-loop-a : goal.invariant-loop-a
invariant-loop-a l = record {
  count : l.pairs.count ≡ l.initial.pairs.count;
  has : (x y : ℕ) → x < l.count → y < l.count → has l.pairs x y ≡ ((nat_lt x l.a && is_before (reaches l.rows) l.groups l.lifetimes x y) || has l.initial.pairs x y);
}
