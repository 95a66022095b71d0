use Rattle.std.proofs.Common.{◌≡◌, ◌==◌, drop}
use Rattle.std.specs.List.{list_any}
use Rattle.base.specs.Operands.{operands_of, touches}
use Rattle.base.proofs.touch.Op+u32.touches.Given as goal

abbrev pub invariant-loop-k : goal.invariant-loop-k
invariant-loop-k l = list_any (λ x. x == l.n) (drop l.k (operands_of l.self)) ≡ touches l.n l.self
