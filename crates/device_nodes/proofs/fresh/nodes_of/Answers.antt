use Rattle.std.proofs.Common.{◌∙◌}
use Rattle.device_nodes.proofs.fresh.nodes_of.Goals as goal

pub returns-clause-phases : goal.returns-clause-phases
returns-clause-phases c = c.from_vec-phases.ensures ∙ c.in_ok-vec.ensures.items_if_clones_equal (λ y e. e)

pub returns-clause-marked : goal.returns-clause-marked
returns-clause-marked c = c.from_vec-marked.ensures ∙ c.in_ok-vec-2.ensures.items_if_clones_equal (λ y e. e)
