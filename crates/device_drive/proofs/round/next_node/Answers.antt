use Rattle.std.proofs.Common.{◌≡◌, ℕ, Option, None, length, below_more, ap, ◌∙◌, subst, arith}
use Rattle.std.specs.Prelude.{IfNone}
use Rattle.device_drive.proofs.Queues.{nothing_ready}
use Rattle.device_drive.proofs.round.next_node.Goals as goal
use Rattle.device_model.specs.Devices.{NoneReady}
use Rattle.program.specs.Entries.{ByQueue}
use Rattle.program.specs.FirstFault.{first_fault}
use Rattle.program.specs.declared.program.Program.{Program}

pub loop-queue-preserved : goal.loop-queue-preserved
loop-queue-preserved c =
    let d = c.args.device.now in
    let q = c.loop-queue.queue in
    let here : NoneReady d q = subst (λ (found : Option ℕ). IfNone found (NoneReady d q)) c.in_default.is c.pick.ensures.none in
    below_more (λ (r : ℕ). NoneReady d r) q c.loop-queue.invariant here

pub returns-clause-none : goal.returns-clause-none
returns-clause-none c =
    let d = c.args.device.now in
    let same : c.deref.result.now ≡ d.program = c.deref.ensures ∙ c.program.ensures in
    let count : length c.program-2.result.now.queues ≡ length d.program.queues = ap (λ (p : Program). length p.queues) (c.program-2.ensures.program ∙ same) in
    nothing_ready d (subst ByQueue same c.program-2.ensures.numbered) (λ r lt. c.loop-queue.invariant r (omega (arith, lt, count)))

pub returns-clause-stands : goal.returns-clause-stands
returns-clause-stands c =
    let d = c.args.device.now in
    let same : c.deref.result.now ≡ d.program = c.deref.ensures ∙ c.program.ensures in
    (c.device_laws.ensures.runs d (subst (λ (p : Program). first_fault p ≡ None) same c.program-2.ensures.shaped)).stands
