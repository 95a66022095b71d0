use Rattle.std.proofs.Common.{◌≡◌, replicate}
use Rattle.frame.proofs.units.copies.Given as goal

abbrev pub invariant-loop-k : goal.invariant-loop-k
invariant-loop-k over l = l.list ≡ replicate l._k l.item
