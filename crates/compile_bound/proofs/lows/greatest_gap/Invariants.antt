use Rattle.std.proofs.Common.{◌≡◌, drop, max}
use Rattle.compile_bound.proofs.lows.greatest_gap.Given as goal
use Rattle.compile_bound.specs.Bounds.{greatest_gap}

abbrev pub invariant-loop-r : goal.invariant-loop-r
invariant-loop-r l = max l.gap (greatest_gap l.sizes (drop l.r-index l.chosen)) ≡ greatest_gap l.sizes l.chosen
