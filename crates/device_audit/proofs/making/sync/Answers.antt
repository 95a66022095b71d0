use Rattle.device_audit.proofs.Made.{quiet_sync}
use Rattle.device_audit.proofs.making.sync.Goals as goal
use Rattle.std.proofs.Common.{◌∙◌, sym}

pub returns-clause-quiet : goal.returns-clause-quiet
returns-clause-quiet c = quiet_sync c.args.device.now c.sync.new.self c.args.node (c.event_laws.ensures.nodes c.args.device.now c.args.node) (sym c.may_sync.ensures ∙ c.if-not-may_sync.false) c.sync.ensures
