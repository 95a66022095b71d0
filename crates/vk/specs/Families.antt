-- Which families have which stages.
use Rattle.std.specs.Prelude.{ℕ, Bool, ◌==◌, if◌then◌else◌}
use Rattle.std.specs.List.{list_any}
use Rattle.base.specs.declared.shape.Family.{Family}
use Rattle.base.specs.declared.shape.Family.TheVariants.{Graphics, Compute, Transfer}
use Rattle.vk.specs.Sets.{has, union_over}
use Rattle.vk.specs.Stages.{Stage, stages}

abbrev pub family_part : ℕ → Stage → ℕ
family_part family stage = if list_any (λ f. f == family) stage.families then stage.bit else 0

-- all stages of a family
abbrev pub stages_of : ℕ → ℕ
stages_of family = union_over (family_part family) stages

abbrev pub on_family : ℕ → ℕ → Bool
on_family set family = has (stages_of family) set

-- the number by which masks know a family
abbrev pub family_number : Family → ℕ
family_number Graphics = 0
family_number Compute = 1
family_number Transfer = 2
