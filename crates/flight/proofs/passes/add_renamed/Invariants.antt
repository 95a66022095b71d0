use Rattle.std.proofs.Common.{◌≡◌, ◌++◌, drop}
use Rattle.law_window.specs.Names.{rename_in}
use Rattle.law_window.specs.Passes.{renamed_passes}
use Rattle.flight.proofs.passes.add_renamed.Given as goal

abbrev pub invariant-loop-k : goal.invariant-loop-k
invariant-loop-k l = l.passes ++ renamed_passes l.i l.k (rename_in l.i l.frame) (drop l.k l.frame.passes) ≡ l.fn.passes ++ renamed_passes l.i 0 (rename_in l.i l.frame) l.frame.passes
