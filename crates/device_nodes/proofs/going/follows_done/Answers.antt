use Rattle.std.proofs.Common.{get_or, ◌∙◌}
use Rattle.device_nodes.proofs.Free.{free_edges}
use Rattle.device_nodes.proofs.going.follows_done.Goals as goal
use Rattle.device_model.specs.declared.phase.Phase.TheVariants.{Idle}

pub returns : goal.returns
returns c = c.is_free.ensures ∙ free_edges c.args.view.now c.requires.shaped (λ x. get_or c.args.phases.now x Idle) c.args.n c.requires.n c.args.blocked c.requires.blocked c.args.lasts.now c.requires.lasts
