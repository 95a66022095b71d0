use Rattle.std.proofs.Common.{◌∙◌}
use Rattle.device_nodes.proofs.fresh.pieces_of.Goals as goal

pub returns-clause-layouts : goal.returns-clause-layouts
returns-clause-layouts c = c.from_vec-layouts.ensures ∙ c.in_ok-vec.ensures.items_if_clones_equal (λ y e. e)

pub returns-clause-owners : goal.returns-clause-owners
returns-clause-owners c = c.from_vec-owners.ensures ∙ c.in_ok-vec-2.ensures.items_if_clones_equal (λ y e. e)
