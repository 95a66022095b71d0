use Rattle.std.proofs.Common.{◌∙◌, ℕ, ap, sym}
use Rattle.device_audit.proofs.Made.{quiet_host}
use Rattle.device_audit.proofs.making.host.Goals as goal
use Rattle.base.specs.declared.event.Event.TheVariants.{Host}
use Rattle.device_model.specs.Devices.{did}

pub returns-clause-quiet : goal.returns-clause-quiet
returns-clause-quiet c = quiet_host c.args.device.now c.host.new.self c.args.node (c.event_laws.ensures.nodes c.args.device.now c.args.node) (sym c.may_read.ensures ∙ c.if-not-may_read.false) (c.host.ensures ∙ ap (λ (k : ℕ). did c.args.device.now (Host k)) c.readback_of-readback.ensures.read)
