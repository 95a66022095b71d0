use Rattle.std.proofs.Common.{◌∙◌, ◌*◌, ◌<◌, length, sym, ap, subst}
use Rattle.std.specs.Arc.{arc_value}
use Rattle.std.proofs.lemmas.List.{length-map}
use Rattle.device.proofs.Facts.{scope_there}
use Rattle.device.proofs.Going.{ready_in, kept_sync}
use Rattle.device.proofs.device.Device.sync.Goals as goal
use Rattle.device.specs.Internal.Syncs.{IsThere}
use Rattle.device.specs.Internal.Tables.{HasCut}
use Rattle.device_model.specs.Steps.{agent_count}
use Rattle.check_access.specs.Views.{View, effect_at}

pub synchronise-requires : goal.synchronise-requires
synchronise-requires c =
    let i = c.self.inside in
    let K = c.self.invariant in
    let program = arc_value i.program in
    let n = c.args.node in
    record {
      agents = K.table.agents ∙ ap (λ z. 8 * z) (sym (length-map program.queues (λ queue. queue.family))) ∙ ap agent_count (sym K.view);
      cut = subst (HasCut i.table) (sym K.view) K.table.cuts;
      node = subst (λ (v : View). n < length v.nodes) (sym K.view) (ready_in i K c.self.view_is n c.requires.ready).inside;
      scope = subst (λ (v : View). IsThere v (effect_at v n).scope) (sym K.view) (scope_there program K.obeys n);
    }

pub sync-requires : goal.sync-requires
sync-requires c = (ready_in c.self.inside c.self.invariant c.self.view_is c.args.node c.requires.ready).told

pub push_reserved-requires : goal.push_reserved-requires
push_reserved-requires c = (ready_in c.self.inside c.self.invariant c.self.view_is c.args.node c.requires.ready).room

pub invariant_of-self : goal.invariant_of-self
invariant_of-self c =
    let e = c.synchronise.ensures in
    let p = c.push_reserved.ensures in
    kept_sync c.self.inside c.self.invariant c.args.node c.sync.new.self c.sync.ensures.view c.push_reserved.new.self p.len p.capacity c.event_laws.ensures.nodes
    c.self.view_is (record { kind = c.requires.sync; ready = c.requires.ready }) c.sync.ensures.agrees c.synchronise.new.table e.stays e.bytes e.shaped p.items
