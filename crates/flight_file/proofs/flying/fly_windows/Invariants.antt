use Rattle.flight_file.proofs.flying.fly_windows.Given as goal
use Rattle.flight_file.specs.Internal.Flying.{IsFlown}
use Rattle.device_run.specs.Keepers.{Kept}

abbrev pub invariant-loop-w : goal.invariant-loop-w
invariant-loop-w g l = Kept (g.K.Keep.kept l.fn.keeper) (g.K.Keep.kept l.keeper) (λ devices. IsFlown l.plan.options.tend l.windows l.w devices l.flying)
