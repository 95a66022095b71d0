use Rattle.std.proofs.Common.{◌≡◌, ◌*◌, ◌≤◌, ◌^◌, take}
use Rattle.compile_bound.proofs.lows.rounded_sum.Given as goal
use Rattle.compile_bound.specs.Bounds.{rounded_sum}

abbrev pub invariant-loop-r : goal.invariant-loop-r
invariant-loop-r l = record {
  is : l.sum ≡ rounded_sum l.sizes (take l.r-index l.chosen);
  small : l.sum ≤ l.r-index * 2 ^ 33;
}
