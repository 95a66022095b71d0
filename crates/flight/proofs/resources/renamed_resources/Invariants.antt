use Rattle.std.proofs.Common.{◌≡◌, ◌++◌, drop}
use Rattle.law_window.specs.Resources.{renamed_resources}
use Rattle.flight.proofs.resources.renamed_resources.Given as goal

abbrev pub invariant-loop-j : goal.invariant-loop-j
invariant-loop-j l = l.all ++ renamed_resources l.i l.j (drop l.j l.resources) ≡ renamed_resources l.i 0 l.resources
