use Rattle.device_workers.proofs.worker.work_through.Given as goal
use Rattle.device_workers.specs.Holds.{Both, LeavesNone, WorksTo}
use Rattle.device_workers.specs.Internal.Loops.{StillWorks}

abbrev pub invariant-loop : goal.invariant-loop
invariant-loop g l =
    (goal.iterator-loop g).can_next l.iterator' × (goal.iterator-loop g).is_finite l.iterator'
    × WorksTo (g.H.Holder.told l.initial.hold) (g.H.Holder.told l.hold) l.own_queue
    × LeavesNone (g.H.Holder.told l.initial.hold) (g.H.Holder.told l.hold)
    × Both (g.H.Holder.part l.initial.hold) (g.H.Holder.part l.hold) StillWorks
