use Rattle.std.proofs.Common.{◌≡◌, take, true}
use Rattle.compile_bound.proofs.choices.is_apart.Given as goal
use Rattle.compile_bound.specs.Choices.{is_apart}
use Rattle.compile_heap.specs.Pairs.{has}

abbrev pub invariant-loop-r : goal.invariant-loop-r
invariant-loop-r l = is_apart (has l.ordered) l.s (take l.r-index l.chosen) ≡ true
