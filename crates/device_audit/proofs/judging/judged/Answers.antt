use Rattle.std.proofs.Common.{◌≡◌, ◌∙◌, ℕ, length, IfNone, Option, sym, ap, subst}
use Rattle.device_audit.proofs.Coming.{at_end}
use Rattle.device_audit.proofs.judging.judged.Goals as goal
use Rattle.device_audit.specs.Internal.Following.{at_place}
use Rattle.device_model.specs.Coming.{AreEnabled}
use Rattle.device_audit.specs.Verdicts.{ran}
use Rattle.device_model.specs.Devices.{Device, IsComplete}
use Rattle.program.specs.declared.program.Program.{Program}

pub ended-requires-clause-enabled : goal.ended-requires-clause-enabled
ended-requires-clause-enabled g c =
    let events = c.args.events.now in
    subst (λ (p : Program). AreEnabled p 0 events (length events)) (ap (λ (d : Device). d.program) c.in_ok-follower.ensures)
    (subst (λ (o : Option ℕ). IfNone o (AreEnabled c.in_ok-follower.follower.program 0 events (length events))) c.in-None.is c.in_ok-at.ensures.enabled)

pub ended-requires-clause-device : goal.ended-requires-clause-device
ended-requires-clause-device g c all =
    let events = c.args.events.now in
    let first : Program = c.in_ok-follower.follower.program in
    let last : Device = c.follow_all-stray.new.follower in
    let came : last ≡ ran c.args.program.now.program events =
    subst (λ (o : Option ℕ). IfNone o (last ≡ at_place first events (length events))) c.in-None.is c.in_ok-at.ensures.all
    ∙ at_end first events
    ∙ ap (λ (d : Device). ran d.program events) c.in_ok-follower.ensures in
    c.into_device-device.ensures.same (subst (λ (d : Device). IsComplete d) (sym came) all) ∙ came
