use Rattle.std.proofs.Common.{arith}
use Rattle.device.proofs.Going.{ready_in, loads_apart, has_loaded, kept_begin}
use Rattle.device.proofs.device.Device.keep.Goals as goal

pub begin-requires : goal.begin-requires
begin-requires c = (ready_in c.self.inside c.self.invariant c.self.view_is c.args.node c.requires.ready).told

pub put_pending-requires : goal.put_pending-requires
put_pending-requires c = omega (arith, c.self.invariant.places, (ready_in c.self.inside c.self.invariant c.self.view_is c.args.node c.requires.ready).inside)

pub push_reserved-requires : goal.push_reserved-requires
push_reserved-requires c = (ready_in c.self.inside c.self.invariant c.self.view_is c.args.node c.requires.ready).room

pub invariant_of-self : goal.invariant_of-self
invariant_of-self c =
    let p = c.push_reserved.ensures in
    kept_begin c.self.inside c.self.invariant c.self.view_is c.args.node (record { kind = c.requires.command; ready = c.requires.ready }) c.args.pending c.requires.pending c.event_laws.ensures.nodes
    c.begin.new.self c.put_pending.new.list c.push_reserved.new.self p.items c.begin.ensures.view c.begin.ensures.agrees c.put_pending.ensures p.len p.capacity

pub returns-clause-loaded : goal.returns-clause-loaded
returns-clause-loaded c =
    has_loaded c.self.inside c.self.invariant c.self.view_is c.args.node (record { kind = c.requires.command; ready = c.requires.ready }) c.args.pending c.requires.pending c.event_laws.ensures.nodes
    c.begin.new.self c.put_pending.new.list c.push_reserved.new.self c.push_reserved.ensures.items

pub returns-clause-apart : goal.returns-clause-apart
returns-clause-apart c = loads_apart c.self.inside c.self.invariant c.self.view_is c.args.node (record { kind = c.requires.command; ready = c.requires.ready }) c.args.pending c.requires.pending c.event_laws.ensures.nodes c.event_laws.ensures.jobs
