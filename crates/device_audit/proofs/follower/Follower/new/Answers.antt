use Rattle.std.proofs.Common.{◌∙◌, List, sym, ap, subst}
use Rattle.device_audit.proofs.Made.{none_yet}
use Rattle.device_audit.proofs.follower.Follower.new.Goals as goal
use Rattle.device_audit.specs.Internal.Following.{Holds}
use Rattle.device.specs.declared.job.Command.{Command}
use Rattle.device_model.specs.Devices.{opening, state_of}

pub invariant_of-result : goal.invariant_of-result
invariant_of-result g c =
    let d = c.in_ok-device.device in
    let program = c.args.program.now.program in
    subst (λ (l : List Command). Holds d l) (sym c.new.ensures.items) (none_yet d (opening program 0) (ap state_of c.in_ok-device.ensures ∙ c.event_laws.ensures.opens program 0 c.args.moves))
