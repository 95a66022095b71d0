use Rattle.std.proofs.Common.{sym, ◌∙◌}
use Rattle.flight.proofs.Counted.{large_found}
use Rattle.flight.specs.Flights.{window_count}
use Rattle.flight.specs.Refusals.{first_too_large}
use Rattle.flight.proofs.limits.first_too_large.Goals as goal

pub returns-in-Some : goal.returns-in-Some
returns-in-Some c =
    let frames = c.args.frames.now in
    large_found frames c.args.persist.now c.args.depth c.loop-w.w c.window_count-w-end.result c.in-Some.fault (first_too_large frames c.args.persist.now c.args.depth (window_count c.args.depth frames) 0) c.loop-w-test.true (sym c.in-Some.is ∙ c.in_ok-fault.ensures) c.loop-w.invariant
