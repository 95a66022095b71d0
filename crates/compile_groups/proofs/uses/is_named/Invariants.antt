use Rattle.std.proofs.Common.{◌≡◌, ◌==◌, false, take}
use Rattle.std.specs.List.{list_any}
use Rattle.base.specs.Operands.{operands_of}
use Rattle.compile_groups.proofs.uses.is_named.Given as goal

abbrev pub invariant-loop-j : goal.invariant-loop-j
invariant-loop-j l = list_any (λ x. x == l.unit) (take l.j (operands_of l.op)) ≡ false
