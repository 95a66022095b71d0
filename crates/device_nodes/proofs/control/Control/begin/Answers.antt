use Rattle.std.proofs.Common.{◌≡◌, ◌<◌, ◌∙◌, List, ℕ, length, true, refl, sym, ap, subst}
use Rattle.std.proofs.lemmas.List.{length-set}
use Rattle.device_nodes.proofs.Agreement.{begun_agrees}
use Rattle.device_nodes.proofs.Listing.{room_left}
use Rattle.device_nodes.proofs.Readiness.{ready_within, ready_idle, idle_not_begun, runs_set, spans_set}
use Rattle.device_nodes.proofs.Spanning.{spanned_put}
use Rattle.device_nodes.proofs.control.Control.begin.Goals as goal
use Rattle.device_nodes.specs.Internal.Kept.{control_in}
use Rattle.device_nodes.specs.Controls.{Control, phase_of, is_ready, Agrees}
use Rattle.device_model.proofs.Control.{idle_not_done}
use Rattle.device_model.specs.States.{State}
use Rattle.device_model.specs.Steps.{begun}
use Rattle.device_model.specs.declared.phase.Phase.TheVariants.{Begun}

pub add-requires-clause-room : goal.add-requires-clause-room
add-requires-clause-room c =
    let i = c.self.inside in
    let keeps = c.self.invariant in
    let n = c.args.node in
    let may : is_ready (control_in i) n ≡ true = subst (λ z. is_ready z n ≡ true) (sym c.self.view_is) c.requires in
    let none = idle_not_begun (phase_of (control_in i) n) (ready_idle (control_in i) n may) in
    subst (λ m. i.running.count < m) (sym keeps.running.of_nodes.room) (room_left (length i.view.nodes) (phase_of (control_in i)) i.running keeps.running n (ready_within (control_in i) n may) none)

pub invariant_of-self : goal.invariant_of-self
invariant_of-self c =
    let i = c.self.inside in
    let keeps = c.self.invariant in
    let n = c.args.node in
    let may : is_ready (control_in i) n ≡ true = subst (λ z. is_ready z n ≡ true) (sym c.self.view_is) c.requires in
    let lt = ready_within (control_in i) n may in
    let idle = ready_idle (control_in i) n may in
    let there : n < length i.phases = subst (λ m. n < m) (sym keeps.phase_count) lt in
    record {
      shaped = keeps.shaped;
      phase_count = ap length c.set-2.ensures ∙ length-set i.phases n Begun ∙ keeps.phase_count;
      mark_count = ap length c.set.ensures ∙ length-set c.mark.new.marked n c.hits_running-marks.result ∙ c.mark.ensures.size ∙ keeps.mark_count;
      layout_count = keeps.layout_count;
      owner_count = c.own.ensures.size ∙ keeps.owner_count;
      counter_count = keeps.counter_count;
      running = runs_set i.phases c.set-2.new.self n Begun there c.set-2.ensures (length i.view.nodes) c.add.new.self (c.add.ensures (length i.view.nodes) (phase_of (control_in i)) lt (idle_not_begun (phase_of (control_in i) n) idle) keeps.running);
      spanned = spans_set i.phases c.set-2.new.self n Begun there c.set-2.ensures i.view i.spans (spanned_put i.view (phase_of (control_in i)) i.spans keeps.spanned n Begun (λ d. absurd (idle_not_done (phase_of (control_in i) n) idle d)));
      lasts = keeps.lasts;
      needed = keeps.needed;
    }

pub returns-clause-agrees : goal.returns-clause-agrees
returns-clause-agrees c =
    let i = c.self.inside in
    let keeps = c.self.invariant in
    let n = c.args.node in
    let may : is_ready (control_in i) n ≡ true = subst (λ z. is_ready z n ≡ true) (sym c.self.view_is) c.requires in
    let lt = ready_within (control_in i) n may in
    let there : n < length i.phases = subst (λ m. n < m) (sym keeps.phase_count) lt in
    let marked : n < length c.mark.new.marked = subst (λ m. n < m) (sym (c.mark.ensures.size ∙ keeps.mark_count)) lt in
    let new : Control = record (control_in i) { phases = c.set-2.new.self; marked = c.set.new.self; owners = c.own.new.owners } in
    let P : Control → Type 0 = λ z. (s : State) (junk : List ℕ) → Agrees z s → Agrees new (begun z.view s n junk) in
    subst P c.self.view_is (λ s junk A. begun_agrees (control_in i) s A i.running keeps.running n new there c.mark.new.marked c.hits_running-marks.result c.mark.ensures.each marked c.hits_running-marks.ensures c.set.ensures c.set-2.ensures refl c.own.ensures.each refl junk)
