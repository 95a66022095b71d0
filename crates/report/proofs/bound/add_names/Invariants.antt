use Rattle.std.proofs.Common.{◌≡◌, ◌++◌, take}
use Rattle.report.specs.BoundLines.{name_lines}
use Rattle.report.proofs.bound.add_names.Given as goal

abbrev pub invariant-loop-k : goal.invariant-loop-k
invariant-loop-k l = l.text ≡ l.fn.text ++ name_lines l.frame l.units (take l.k-index l.chosen)
