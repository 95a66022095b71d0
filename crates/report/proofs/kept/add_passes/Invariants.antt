use Rattle.std.proofs.Common.{◌≡◌, ◌++◌, drop}
use Rattle.report.specs.KeptLines.{pass_lines}
use Rattle.report.proofs.kept.add_passes.Given as goal

abbrev pub invariant-loop-p : goal.invariant-loop-p
invariant-loop-p l = l.text ++ pass_lines l.listing l.kept l.p (drop l.p l.passes) ≡ l.fn.text ++ pass_lines l.listing l.kept 0 l.passes
