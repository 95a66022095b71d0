use Rattle.std.proofs.Common.{◌≡◌, ◌<◌, ◌∙◌, List, ℕ, length, true, refl, sym, ap, subst}
use Rattle.std.proofs.lemmas.List.{length-set}
use Rattle.device_nodes.proofs.Agreement.{hosted_agrees}
use Rattle.device_nodes.proofs.Readiness.{ready_within, ready_idle, idle_not_begun, runs_done}
use Rattle.device_nodes.proofs.control.Control.host.Goals as goal
use Rattle.device_nodes.specs.Internal.Kept.{control_in}
use Rattle.device_nodes.specs.Controls.{Control, phase_of, is_ready, Agrees}
use Rattle.device_model.specs.States.{State}
use Rattle.device_model.specs.Steps.{hosted}
use Rattle.device_model.specs.declared.phase.Phase.TheVariants.{Done}

pub invariant_of-self : goal.invariant_of-self
invariant_of-self c =
    let i = c.self.inside in
    let keeps = c.self.invariant in
    let n = c.args.node in
    let may : is_ready (control_in i) n ≡ true = subst (λ z. is_ready z n ≡ true) (sym c.self.view_is) c.requires in
    let there : n < length i.phases = subst (λ m. n < m) (sym keeps.phase_count) (ready_within (control_in i) n may) in
    record {
      shaped = keeps.shaped;
      phase_count = ap length c.finish.ensures.phases ∙ length-set i.phases n Done ∙ keeps.phase_count;
      mark_count = c.mark.ensures.size ∙ keeps.mark_count;
      layout_count = keeps.layout_count;
      owner_count = keeps.owner_count;
      counter_count = keeps.counter_count;
      running = runs_done i.phases c.finish.new.phases n Done there c.finish.ensures.phases (length i.view.nodes) i.running refl (idle_not_begun (phase_of (control_in i) n) (ready_idle (control_in i) n may)) keeps.running;
      spanned = c.finish.ensures.spanned;
      lasts = keeps.lasts;
      needed = keeps.needed;
    }

pub returns-clause-agrees : goal.returns-clause-agrees
returns-clause-agrees c =
    let i = c.self.inside in
    let keeps = c.self.invariant in
    let n = c.args.node in
    let may : is_ready (control_in i) n ≡ true = subst (λ z. is_ready z n ≡ true) (sym c.self.view_is) c.requires in
    let there : n < length i.phases = subst (λ m. n < m) (sym keeps.phase_count) (ready_within (control_in i) n may) in
    let new : Control = record (control_in i) { phases = c.finish.new.phases; marked = c.mark.new.marked } in
    let P : Control → Type 0 = λ z. (s : State) (junk : List ℕ) → Agrees z s → Agrees new (hosted z.view s n junk) in
    subst P c.self.view_is (λ s junk A. hosted_agrees (control_in i) s A i.running keeps.running n new there c.finish.ensures.phases c.mark.ensures.each refl refl refl junk)
