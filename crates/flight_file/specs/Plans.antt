-- How frames are to fly.
use Rattle.flight_file.specs.declared.plan.FlightPlan.{FlightPlan}
use Rattle.cli.specs.Commands.{HasDepth, HasNames}

-- at most 16 persisting names, all different, and 1 to 8 frames together
pub record CanFly (plan : FlightPlan) : Type 0 where
  pub names : HasNames plan.persist.now
  pub depth : HasDepth plan.depth
