use Rattle.device_audit.proofs.Made.{lands, lands_not}
use Rattle.device_audit.proofs.making.end.Goals as goal

pub returns-in-Done-clause-lands : goal.returns-in-Done-clause-lands
returns-in-Done-clause-lands c = lands c.args.device.now c.end.new.self c.args.done.node (c.event_laws.ensures.nodes c.args.device.now c.args.done.node) c.in-Done.ensures.landed c.in-Done.ensures.event

pub returns-in-NotBegun-clause-lands : goal.returns-in-NotBegun-clause-lands
returns-in-NotBegun-clause-lands c = lands_not c.args.device.now c.end.new.self c.args.done.node c.in-NotBegun.ensures.landed c.in-NotBegun.ensures.event
