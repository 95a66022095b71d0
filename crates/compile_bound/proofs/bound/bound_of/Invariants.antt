use Rattle.compile_bound.proofs.bound.bound_of.Given as goal
use Rattle.compile_bound.specs.Bounds.{IsBest, IsShown}
use Rattle.compile_heap.specs.Pairs.{has}

abbrev pub invariant-loop-r : goal.invariant-loop-r
invariant-loop-r l = record {
  best : IsBest l.sizes (has l.ordered) l.r l.best;
  shown : IsShown l.sizes (has l.ordered) l.best;
}
