-- How many waits and stages of waits there are, which falls with each that is left out.
use Rattle.std.specs.Prelude.{ℕ, suc, List, [], ◌∷◌, ◌+◌, ◌==◌, if◌then◌else◌}
use Rattle.base.specs.declared.shape.Family.{Family}
use Rattle.vk.specs.Sets.{has}
use Rattle.program.specs.declared.program.Batch.{Batch}
use Rattle.program.specs.declared.program.Program.{Program}
use Rattle.program.specs.declared.program.Queue.{Queue}
use Rattle.program.specs.declared.program.WaitFor.{WaitFor}
use Rattle.check_tighten.specs.Own.{single_stages, own_stages}

-- over all entries together
abbrev pub total : {X : Type 0} → (X → ℕ) → List X → ℕ
total weigh [] = 0
total weigh (x ∷ xs) = weigh x + total weigh xs

abbrev pub stage_count : ℕ → ℕ
stage_count set = total (λ stage. if has set stage then 1 else 0) single_stages

-- its own stages, and one where it has others
abbrev pub mask_weight : Family → ℕ → ℕ
mask_weight family set = stage_count (own_stages family set) + (if set == own_stages family set then 0 else 1)

abbrev pub wait_weight : Family → WaitFor → ℕ
wait_weight family wait = suc (mask_weight family wait.stages.0)

abbrev pub batch_weight : Family → Batch → ℕ
batch_weight family batch = total (wait_weight family) batch.waits

abbrev pub queue_weight : Queue → ℕ
queue_weight queue = total (batch_weight queue.family) queue.batches

abbrev pub weight : Program → ℕ
weight program = total queue_weight program.queues
