use Rattle.std.proofs.Common.{◌≡◌, ◌++◌, take}
use Rattle.report.specs.Paths.{path_text}
use Rattle.report.proofs.path.add_path.Given as goal

abbrev pub invariant-loop-leg : goal.invariant-loop-leg
invariant-loop-leg l = l.text ≡ l.fn.text ++ path_text (take l.leg-index l.location)
