use Rattle.std.proofs.Common.{◌≡◌, ◌<◌, ◌∙◌, List, ℕ, length, true, refl, sym, ap, subst}
use Rattle.std.proofs.lemmas.List.{length-set}
use Rattle.device_nodes.proofs.Agreement.{ended_agrees}
use Rattle.device_nodes.proofs.Readiness.{begun_within, runs_set}
use Rattle.device_nodes.proofs.control.Control.end.Goals as goal
use Rattle.device_nodes.specs.Internal.Kept.{control_in}
use Rattle.device_nodes.specs.Controls.{Control, phase_of, Agrees}
use Rattle.device_model.specs.States.{State, is_begun}
use Rattle.device_model.specs.Steps.{ended}
use Rattle.device_model.specs.declared.phase.Phase.TheVariants.{Done}

pub finish-requires-clause-node : goal.finish-requires-clause-node
finish-requires-clause-node c =
    let i = c.self.inside in
    let n = c.args.node in
    let run : is_begun (phase_of (control_in i) n) ≡ true = subst (λ z. is_begun (phase_of z n) ≡ true) (sym c.self.view_is) c.requires in
    subst (λ m. n < m) c.self.invariant.phase_count (begun_within i.phases n run)

pub invariant_of-self : goal.invariant_of-self
invariant_of-self c =
    let i = c.self.inside in
    let keeps = c.self.invariant in
    let n = c.args.node in
    let run : is_begun (phase_of (control_in i) n) ≡ true = subst (λ z. is_begun (phase_of z n) ≡ true) (sym c.self.view_is) c.requires in
    let there = begun_within i.phases n run in
    record {
      shaped = keeps.shaped;
      phase_count = ap length c.finish.ensures.phases ∙ length-set i.phases n Done ∙ keeps.phase_count;
      mark_count = keeps.mark_count;
      layout_count = keeps.layout_count;
      owner_count = keeps.owner_count;
      counter_count = keeps.counter_count;
      running = runs_set i.phases c.finish.new.phases n Done there c.finish.ensures.phases (length i.view.nodes) c.remove.new.self (c.remove.ensures (length i.view.nodes) (phase_of (control_in i)) run keeps.running);
      spanned = c.finish.ensures.spanned;
      lasts = keeps.lasts;
      needed = keeps.needed;
    }

pub returns-clause-agrees : goal.returns-clause-agrees
returns-clause-agrees c =
    let i = c.self.inside in
    let keeps = c.self.invariant in
    let n = c.args.node in
    let run : is_begun (phase_of (control_in i) n) ≡ true = subst (λ z. is_begun (phase_of z n) ≡ true) (sym c.self.view_is) c.requires in
    let new : Control = record (control_in i) { phases = c.finish.new.phases } in
    let P : Control → Type 0 = λ z. (s : State) (bytes : List ℕ) → Agrees z s → Agrees new (ended z.view s n bytes) in
    subst P c.self.view_is (λ s bytes A. ended_agrees (control_in i) s A i.running keeps.running n new (begun_within i.phases n run) c.finish.ensures.phases refl refl refl refl bytes)
