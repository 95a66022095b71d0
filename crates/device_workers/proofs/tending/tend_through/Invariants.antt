use Rattle.std.proofs.Common.{◌-◌}
use Rattle.device_workers.proofs.tending.tend_through.Given as goal
use Rattle.device_workers.specs.Internal.Loops.{TendsOn, PaysOn}
use Rattle.device_workers.specs.Holds.{Both}

abbrev pub invariant-loop-move : goal.invariant-loop-move
invariant-loop-move g l =
    Both (g.H.Mover.told l.initial.hold) (g.H.Mover.told l.hold) (λ d e. TendsOn d e l.seed (256 - l._move) l.tender l.agents l.sizes)
    × Both (g.H.Mover.part l.initial.hold) (g.H.Mover.part l.hold) (PaysOn (256 - l._move) l.tender l.agents l.sizes)
