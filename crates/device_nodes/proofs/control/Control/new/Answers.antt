use Rattle.std.proofs.Common.{◌∙◌, length, get_or, false, ap, subst}
use Rattle.std.proofs.lemmas.List.{length-replicate}
use Rattle.vk.specs.declared.layout.Layout.TheVariants.{Undefined}
use Rattle.device_nodes.proofs.Agreement.{opened_agrees}
use Rattle.device_nodes.proofs.Lists.{copies}
use Rattle.device_nodes.proofs.control.Control.new.Goals as goal
use Rattle.device_nodes.specs.Internal.Running.{Runs}
use Rattle.device_nodes.specs.Internal.Spans.{Spanned}
use Rattle.device_nodes.specs.Controls.{Control}
use Rattle.device_model.specs.States.{is_begun}
use Rattle.device_model.specs.declared.owner.Owner.TheVariants.{Unused}
use Rattle.device_model.specs.declared.phase.Phase.TheVariants.{Idle}

pub invariant_of-result : goal.invariant_of-result
invariant_of-result c =
    let V = c.in_ok-view.view in
    let fresh = c.in_ok-fresh.fresh in
    let F = c.in_ok-fresh.ensures in
    record {
      shaped = c.in_ok-view.ensures.shaped;
      phase_count = ap length F.phases ∙ length-replicate (length V.nodes) Idle;
      mark_count = ap length F.marked ∙ length-replicate (length V.nodes) false;
      layout_count = ap length F.layouts ∙ length-replicate (length V.pieces) Undefined;
      owner_count = ap length F.owners ∙ length-replicate (length V.pieces) Unused;
      counter_count = ap length F.counters ∙ length-replicate (length V.families) 0;
      running = subst (λ m. Runs m (λ n. get_or fresh.phases n Idle) c.in_ok-running.running) c.count.ensures.count
          (c.in_ok-running.ensures (λ n. get_or fresh.phases n Idle) (λ n. ap is_begun (ap (λ l. get_or l n Idle) F.phases ∙ copies (length V.nodes) Idle n)));
      spanned = subst (λ l. Spanned V (λ n. get_or l n Idle) c.in_ok-spans.spans) c.deref.ensures c.in_ok-spans.ensures;
      lasts = c.in_ok-lasts.ensures;
      needed = c.in_ok-needs.ensures;
    }

pub returns-clause-agrees : goal.returns-clause-agrees
returns-clause-agrees c =
    let V = c.in_ok-view.view in
    let fresh = c.in_ok-fresh.fresh in
    let F = c.in_ok-fresh.ensures in
    let new : Control = record { view = V; phases = fresh.phases; marked = fresh.marked; layouts = fresh.layouts; owners = fresh.owners; counters = fresh.counters } in
    λ main. opened_agrees new (length V.nodes) (length V.pieces) (length V.families) F.phases F.marked F.layouts F.owners F.counters main
