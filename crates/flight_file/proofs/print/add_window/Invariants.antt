use Rattle.std.proofs.Common.{◌≡◌}
use Rattle.flight_file.proofs.print.add_window.Given as goal
use Rattle.flight_file.specs.Internal.Flying.{text_before}

abbrev pub invariant-loop-i : goal.invariant-loop-i
invariant-loop-i l = l.text ≡ text_before l.windows l.i
