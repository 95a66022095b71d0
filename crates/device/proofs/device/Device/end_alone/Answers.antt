use Rattle.std.proofs.Common.{◌≡◌, ◌∙◌, true, Some, sym, ap, subst}
use Rattle.std.specs.Arc.{arc_value}
use Rattle.check_program.specs.Apart.{op_at}
use Rattle.device.proofs.Ended.{begun_in, pending_there, pending_is, pending_works, pending_room, is_made, len_is, store_piece, store_agent, store_cut, room_there}
use Rattle.device.proofs.Going.{kept_end}
use Rattle.device.proofs.device.Device.end_alone.Goals as goal
use Rattle.device.specs.Internal.Loads.{LoadsIn}
use Rattle.device.specs.declared.job.Command.{Command}
use Rattle.device_model.specs.Devices.{Device, state_of}
use Rattle.device_model.specs.States.{is_begun}
use Rattle.device_model.specs.Ready.{is_command, kind_at}
use Rattle.program.specs.declared.program.Program.{Program}
use Rattle.check_access.specs.Views.{view_of}

pub knows-known-requires : goal.knows-known-requires
knows-known-requires c =
    let n = c.into_parts-command.result.0.node in
    let p = c.into_parts-command.result.2 in
    record {
      begun = subst (λ (d : Device). is_begun ((state_of d).phase n) ≡ true) c.self.view_is (begun_in c.self.inside c.self.invariant n (sym c.is_begun.ensures ∙ c.if-not-is_begun.false));
      loads = subst (λ (x : Command). LoadsIn (arc_value p) x.node x.loaded) (sym c.into_parts-command.ensures.command) c.into_parts-command.ensures.loads;
    }

pub made-stored-requires-clause-known : goal.made-stored-requires-clause-known
made-stored-requires-clause-known c e =
    let n = c.into_parts-command.result.0.node in
    let pending = pending_is c.self.inside c.self.invariant n (sym c.is_begun.ensures ∙ c.if-not-is_begun.false) c.in-Some.pending (sym c.in-Some.is ∙ c.take_pending.ensures.taken) in
    c.knows-known.ensures e ∙ ap (λ (d : Device). (state_of d).loaded n) (sym c.self.view_is) ∙ sym pending.loaded

pub take_pending-requires : goal.take_pending-requires
take_pending-requires c = pending_there c.self.inside c.self.invariant c.into_parts-command.result.0.node (sym c.is_begun.ensures ∙ c.if-not-is_begun.false)

pub op_of-op-requires-clause-command : goal.op_of-op-requires-clause-command
op_of-op-requires-clause-command c =
    let n = c.into_parts-command.result.0.node in
    let pending = pending_is c.self.inside c.self.invariant n (sym c.is_begun.ensures ∙ c.if-not-is_begun.false) c.in-Some.pending (sym c.in-Some.is ∙ c.take_pending.ensures.taken) in
    subst (λ (p : Program). is_command (kind_at (view_of p) n) ≡ true) (sym c.deref.ensures) pending.command

pub made-stored-requires-clause-work : goal.made-stored-requires-clause-work
made-stored-requires-clause-work c =
    let n = c.into_parts-command.result.0.node in
    let at : op_at (arc_value c.self.inside.program) n ≡ Some c.op_of-op.result.now = ap (λ (p : Program). op_at p n) (sym c.deref.ensures) ∙ c.op_of-op.ensures in
    pending_works c.self.inside c.self.invariant n (sym c.is_begun.ensures ∙ c.if-not-is_begun.false) c.in-Some.pending (sym c.in-Some.is ∙ c.take_pending.ensures.taken) c.op_of-op.result.now at c.deref-2.result.now c.deref-2.ensures

pub made-stored-requires-clause-room : goal.made-stored-requires-clause-room
made-stored-requires-clause-room c =
    let n = c.into_parts-command.result.0.node in
    let at : op_at (arc_value c.self.inside.program) n ≡ Some c.op_of-op.result.now = ap (λ (p : Program). op_at p n) (sym c.deref.ensures) ∙ c.op_of-op.ensures in
    pending_room c.self.inside c.self.invariant n (sym c.is_begun.ensures ∙ c.if-not-is_begun.false) c.in-Some.pending (sym c.in-Some.is ∙ c.take_pending.ensures.taken) c.op_of-op.result.now at c.deref-2.result.now c.deref-2.ensures

pub store-requires-clause-piece : goal.store-requires-clause-piece
store-requires-clause-piece c = store_piece c.self.inside c.self.invariant c.into_parts-command.result.0.node (sym c.is_begun.ensures ∙ c.if-not-is_begun.false) c.in-Some.pending (sym c.in-Some.is ∙ c.take_pending.ensures.taken) c.view.result.now c.view.ensures.view

pub store-requires-clause-agent : goal.store-requires-clause-agent
store-requires-clause-agent c = store_agent c.self.inside c.self.invariant c.into_parts-command.result.0.node (sym c.is_begun.ensures ∙ c.if-not-is_begun.false) c.in-Some.pending (sym c.in-Some.is ∙ c.take_pending.ensures.taken) c.view.result.now c.view.ensures.view

pub store-requires-clause-len : goal.store-requires-clause-len
store-requires-clause-len c =
    let n = c.into_parts-command.result.0.node in
    let at : op_at (arc_value c.self.inside.program) n ≡ Some c.op_of-op.result.now = ap (λ (p : Program). op_at p n) (sym c.deref.ensures) ∙ c.op_of-op.ensures in
    len_is c.self.inside c.self.invariant n (sym c.is_begun.ensures ∙ c.if-not-is_begun.false) c.in-Some.pending (sym c.in-Some.is ∙ c.take_pending.ensures.taken) c.op_of-op.result.now at c.deref-2.result.now c.deref-2.ensures c.made-stored.result c.view.result.now c.view.ensures.view c.made-stored.ensures.long

pub store-requires-clause-cut : goal.store-requires-clause-cut
store-requires-clause-cut c = store_cut c.self.inside c.self.invariant c.into_parts-command.result.0.node (sym c.is_begun.ensures ∙ c.if-not-is_begun.false) c.in-Some.pending (sym c.in-Some.is ∙ c.take_pending.ensures.taken) c.view.result.now c.view.ensures.view

pub store-requires-clause-room : goal.store-requires-clause-room
store-requires-clause-room c = (room_there c.self.inside c.self.invariant c.into_parts-command.result.0.node (sym c.is_begun.ensures ∙ c.if-not-is_begun.false)).1

pub push_reserved-requires : goal.push_reserved-requires
push_reserved-requires c = (room_there c.self.inside c.self.invariant c.into_parts-command.result.0.node (sym c.is_begun.ensures ∙ c.if-not-is_begun.false)).0

pub invariant_of-self : goal.invariant_of-self
invariant_of-self c =
    let i = c.self.inside in
    let K = c.self.invariant in
    let n = c.into_parts-command.result.0.node in
    let begun = sym c.is_begun.ensures ∙ c.if-not-is_begun.false in
    let h = c.in-Some.pending in
    let is = sym c.in-Some.is ∙ c.take_pending.ensures.taken in
    let op = c.op_of-op.result.now in
    let at : op_at (arc_value i.program) n ≡ Some op = ap (λ (p : Program). op_at p n) (sym c.deref.ensures) ∙ c.op_of-op.ensures in
    let stored = is_made i K n begun h is op at c.deref-2.result.now c.deref-2.ensures c.made-stored.result c.view.result.now c.view.ensures.view c.junk_if-junk.result c.is_marked.result c.is_marked.ensures c.junk_if-junk.ensures c.made-stored.ensures.junk c.made-stored.ensures.stored in
    let e = c.store.ensures in
    let p = c.push_reserved.ensures in
    kept_end i K n c.end.new.self c.end.ensures.view c.push_reserved.new.self p.len p.capacity c.event_laws.ensures.nodes
    begun h is c.made-stored.result stored c.end.ensures.agrees c.store.new.table c.view.result.now c.view.ensures.view e.bytes e.keeps e.cuts e.stores c.take_pending.new.list c.take_pending.ensures.rest p.items
