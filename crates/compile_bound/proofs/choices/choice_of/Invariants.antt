use Rattle.std.proofs.Common.{◌≡◌, ◌<◌, ◌≤◌, ◌+◌, [], ◌∷◌, length, take}
use Rattle.std.specs.List.{All, fold}
use Rattle.compile_bound.proofs.choices.choice_of.Given as goal
use Rattle.compile_bound.specs.Choices.{joined}
use Rattle.compile_heap.specs.Pairs.{has}

abbrev pub invariant-loop-s : goal.invariant-loop-s
invariant-loop-s l = record {
  choice : l.chosen.items ≡ fold (joined (has l.ordered)) (l.r ∷ []) (take l.s-index l.order);
  within : All (λ s. s < l.ordered.count) l.chosen.items;
  count : length l.chosen.items ≤ l.s-index + 1;
}
