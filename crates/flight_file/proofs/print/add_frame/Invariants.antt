use Rattle.std.proofs.Common.{◌≡◌, ◌++◌}
use Rattle.flight_file.proofs.print.add_frame.Given as goal
use Rattle.flight_file.specs.Texts.{bytes_alone}
use Rattle.report.specs.Exports.{export_text}
use Rattle.report.specs.Flights.{flight_text}
use Rattle.report.specs.declared.flight.FlightLine.TheVariants as lines
use Rattle.compile_file.specs.Exports.{in_turn}

abbrev pub invariant-loop-k : goal.invariant-loop-k
invariant-loop-k l = l.text ≡ (l.fn.text ++ flight_text (lines.Frame l.i)) ++ in_turn (λ k. export_text l.good k (bytes_alone l.windows.frames l.windows.persist l.i l.good k)) l.k
