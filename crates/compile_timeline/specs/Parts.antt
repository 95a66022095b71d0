-- The waits, items and signals of each queue.
use Rattle.std.specs.Prelude.{ℕ, ◌-◌, ◌==◌, List, [], ◌∷◌, ◌++◌, length, slice_get, Bool, if◌then◌else◌}
use Rattle.std.specs.Option.{option_map_or}
use Rattle.vk.specs.Stages.{all_commands}
use Rattle.program.specs.declared.program.Item as programs
use Rattle.program.specs.declared.program.Signal.{Signal}
use Rattle.program.specs.declared.program.WaitFor.{WaitFor}
use Rattle.compile_timeline.specs.Below.{all_below}
use Rattle.compile_timeline.specs.Signals.{has_signal, value_at}
use Rattle.compile_timeline.specs.Waits.{latest, waits}
use Rattle.compile_timeline.specs.declared.step.Step.{Step}
use Rattle.compile_timeline.specs.declared.step.Step.TheVariants.{Item, Need}

-- what is submitted to a queue, one after another
pub data Part : Type 0 where
  Waits : WaitFor → Part
  Does : programs.Item → Part
  Signals : Signal → Part

abbrev pub when : {X : Type 0} → Bool → X → List X
when test x = if test then x ∷ [] else []

-- for the signal after the latest step of queue p that is needed
abbrev pub wait_for : List Step → ℕ → ℕ → ℕ → ℕ → WaitFor
wait_for script count q i p = record { queue = p; value = value_at script count (latest script q p i - 1); stages = record { 0 = all_commands } }

abbrev pub signal_after : List Step → ℕ → ℕ → Signal
signal_after script count i = record { value = value_at script count i; stages = record { 0 = all_commands } }

-- in the order of queues
abbrev pub waits_at : List Step → ℕ → ℕ → ℕ → List Part
waits_at script count q i = all_below (λ p. when (waits script q i p) (Waits (wait_for script count q i p))) count

abbrev pub step_parts : List Step → ℕ → ℕ → ℕ → Step → List Part
step_parts script count q i (Need r step) = []
step_parts script count q i (Item r item) = if r == q then waits_at script count q i ++ Does item ∷ when (has_signal script count q i) (Signals (signal_after script count i)) else []

-- what queue q has of step i
abbrev pub parts_at : List Step → ℕ → ℕ → ℕ → List Part
parts_at script count q i = option_map_or (step_parts script count q i) (slice_get script i) []

abbrev pub parts : List Step → ℕ → ℕ → List Part
parts script count q = all_below (parts_at script count q) (length script)
