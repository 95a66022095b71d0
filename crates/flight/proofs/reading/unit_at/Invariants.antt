use Rattle.std.proofs.Common.{◌≡◌}
use Rattle.law_window.specs.Declared.{unit_at}
use Rattle.flight.proofs.reading.unit_at.Given as goal

abbrev pub invariant-loop-i : goal.invariant-loop-i
invariant-loop-i l = l.unit ≡ unit_at l.resources l.i
