use Rattle.std.proofs.Common.{◌∙◌, replicate, false, ap}
use Rattle.vk.specs.declared.layout.Layout.TheVariants.{Undefined}
use Rattle.device_nodes.proofs.fresh.Fresh.of.Goals as goal
use Rattle.device_model.specs.declared.owner.Owner.TheVariants.{Unused}
use Rattle.device_model.specs.declared.phase.Phase.TheVariants.{Idle}

pub returns : goal.returns
returns c = record {
  phases = c.in_ok-phases.ensures.phases ∙ ap (λ m. replicate m Idle) c.count.ensures.count;
  marked = c.in_ok-phases.ensures.marked ∙ ap (λ m. replicate m false) c.count.ensures.count;
  layouts = c.in_ok-layouts.ensures.layouts ∙ ap (λ m. replicate m Undefined) c.piece_count.ensures;
  owners = c.in_ok-layouts.ensures.owners ∙ ap (λ m. replicate m Unused) c.piece_count.ensures;
  counters = c.from_vec-counters.ensures ∙ c.in_ok-vec.ensures.items_if_clones_equal (λ y e. e) ∙ ap (λ m. replicate m 0) c.requires;
}
