-- The stages of a wait that its queue has.
use Rattle.std.specs.Prelude.{ℕ, List, [], ◌∷◌, ◌&&◌, if◌then◌else◌}
use Rattle.bitflags.specs.Sets.{without}
use Rattle.base.specs.declared.shape.Family.{Family}
use Rattle.vk.specs.Families.{family_number, on_family}
use Rattle.vk.specs.Sets.{has, union_over}
use Rattle.vk.specs.Stages.{color_attachment_output, compute_shader, host, copy, clear, expand}
use Rattle.program.specs.declared.program.WaitFor.{WaitFor}

-- the stages that stand for themselves alone, in the order of their bits
abbrev pub single_stages : List ℕ
single_stages = color_attachment_output ∷ compute_shader ∷ host ∷ copy ∷ clear ∷ []

abbrev pub own_part : Family → ℕ → ℕ → ℕ
own_part family set stage = if has (expand set) stage && on_family stage (family_number family) then stage else 0

-- of the stages that a mask stands for, those that a family's queues have
abbrev pub own_stages : Family → ℕ → ℕ
own_stages family set = union_over (own_part family set) single_stages

-- a wait of these stages
abbrev pub with_stages : ℕ → WaitFor → WaitFor
with_stages set wait = record { queue = wait.queue; value = wait.value; stages = record { 0 = set } }

-- of its own stages
abbrev pub fitted : Family → WaitFor → WaitFor
fitted family wait = with_stages (own_stages family wait.stages.0) wait

-- of its own stages but one
abbrev pub without_stage : Family → ℕ → WaitFor → WaitFor
without_stage family stage wait = with_stages (without 64 (own_stages family wait.stages.0) stage) wait
