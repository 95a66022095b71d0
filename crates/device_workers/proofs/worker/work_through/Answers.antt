use Rattle.std.proofs.Common.{refl, subst, ⊎_elim}
use Rattle.device_workers.proofs.Working.{no_holds, one_step, one_end, leaves_none, leaves_wait, leaves_step, leaves_round, still_works, works_on, ends_on}
use Rattle.device_workers.proofs.worker.work_through.Goals as goal
use Rattle.device_workers.specs.Holds.{Both, StepsTo, LeavesNone}
use Rattle.device_workers.specs.Internal.Loops.{StillWorks}
use Rattle.device_workers.specs.Parts.{CountsStep}
use Rattle.device_workers.specs.declared.step.WorkerStep.{WorkerStep}
use Rattle.device_workers.specs.declared.step.WorkerStep.TheVariants.{Compute, Stepped, Wait}

pub loop-init : goal.loop-init
loop-init g c =
    let a = g.H.Holder.told c.args.hold.now in
    (tt, tt, no_holds a c.args.own_queue, leaves_none a, still_works (g.H.Holder.part c.args.hold.now))

pub loop-preserved-in-Compute : goal.loop-preserved-in-Compute
loop-preserved-in-Compute g c =
    let a = g.H.Holder.told c.args.hold.now in
    let b = g.H.Holder.told c.loop.hold in
    let d = g.H.Holder.told c.step.new.self in
    let e = g.H.Holder.told c.land-landed.new.self in
    let p = g.H.Holder.part c.args.hold.now in
    let q = g.H.Holder.part c.loop.hold in
    let r = g.H.Holder.part c.step.new.self in
    let s = g.H.Holder.part c.land-landed.new.self in
    let own = c.args.own_queue in
    let job = c.in-Compute.job in
    let done = c.compute-done.result in
    let step : StepsTo b d own (Compute job) = subst (λ (t : WorkerStep). StepsTo b d own t) c.in-Compute.is c.in_ok-job.ensures.ok in
    let counts : Both q r (CountsStep (Compute job)) = subst (λ (t : WorkerStep). Both q r (CountsStep t)) c.in-Compute.is c.in_ok-job.ensures.counts in (
      tt,
      tt,
      one_end a d e own done.node (one_step a b d own (Compute job) c.loop.invariant.2 step) c.land-landed.ensures.lands,
      leaves_round a b d e own job done c.compute-done.ensures c.round_laws.ensures.rounds c.loop.invariant.3 step c.land-landed.ensures.lands,
      ends_on p r s c.land-landed.result (works_on p q r (Compute job) refl c.loop.invariant.4 counts) c.land-landed.ensures.counts,
    )

pub loop-preserved : goal.loop-preserved
loop-preserved g c =
    let a = g.H.Holder.told c.args.hold.now in
    let b = g.H.Holder.told c.loop.hold in
    let d = g.H.Holder.told c.step.new.self in
    let p = g.H.Holder.part c.args.hold.now in
    let q = g.H.Holder.part c.loop.hold in
    let r = g.H.Holder.part c.step.new.self in
    let own = c.args.own_queue in
    let leaves : LeavesNone a d =
    ⊎_elim
    (λ is. leaves_step a b d own c.round_laws.ensures.rounds c.loop.invariant.3 (subst (λ (t : WorkerStep). StepsTo b d own t) is c.in_ok-job.ensures.ok))
    (λ is. leaves_wait a b d own c.loop.invariant.3 (subst (λ (t : WorkerStep). StepsTo b d own t) is c.in_ok-job.ensures.ok))
    c.in-Stepped.is
    in
    let still : Both p r StillWorks =
    ⊎_elim
    (λ is. works_on p q r Stepped refl c.loop.invariant.4 (subst (λ (t : WorkerStep). Both q r (CountsStep t)) is c.in_ok-job.ensures.counts))
    (λ is. works_on p q r Wait refl c.loop.invariant.4 (subst (λ (t : WorkerStep). Both q r (CountsStep t)) is c.in_ok-job.ensures.counts))
    c.in-Stepped.is
    in
    (tt, tt, one_step a b d own c.in_ok-job.field-0 c.loop.invariant.2 c.in_ok-job.ensures.ok, leaves, still)
