-- Which items wait, and for which step. Steps are counted from 1 here, so that 0 stands for none.
use Rattle.std.specs.Prelude.{ℕ, zero, suc, ◌==◌, ◌&&◌, nat_lt, max, List, slice_get, Bool, if◌then◌else◌}
use Rattle.std.specs.Option.{option_map_or}
use Rattle.compile_timeline.specs.Steps.{queue_at, has_item}
use Rattle.compile_timeline.specs.declared.step.Step.{Step}
use Rattle.compile_timeline.specs.declared.step.Step.TheVariants.{Item, Need}

-- the step of queue p that this step needs for queue q
abbrev pub wanted : List Step → ℕ → ℕ → Step → ℕ
wanted script q p (Item r item) = 0
wanted script q p (Need r step) = if (r == q) && (queue_at script step == p) then suc step else 0

-- the latest step of queue p that queue q needs before place i
abbrev pub latest : List Step → ℕ → ℕ → ℕ → ℕ
latest script q p zero = 0
latest script q p (suc i) = max (option_map_or (wanted script q p) (slice_get script i) 0) (latest script q p i)

-- the last item of queue q before place i
abbrev pub last_item : List Step → ℕ → ℕ → ℕ
last_item script q zero = 0
last_item script q (suc i) = if has_item script q i then suc i else last_item script q i

-- before the item of queue q at place i stands a wait for queue p: it needs a later step than any item of q before it
abbrev pub waits : List Step → ℕ → ℕ → ℕ → Bool
waits script q i p = nat_lt (latest script q p (last_item script q i)) (latest script q p i)

-- that wait is for step j
abbrev pub waits_for : List Step → ℕ → ℕ → ℕ → ℕ → Bool
waits_for script j q i p = waits script q i p && (latest script q p i == suc j)
