-- Programs none of whose waits, and no stage of a wait, can be left out.
use Rattle.std.specs.Prelude.{◌≡◌, ℕ, slice_get, slice_set, Some, None, true}
use Rattle.vk.specs.Sets.{has}
use Rattle.check_program.specs.Sound.{IsSound}
use Rattle.program.specs.FirstFault.{first_fault}
use Rattle.program.specs.Obeys.{BatchAt}
use Rattle.program.specs.declared.program.Batch.{Batch}
use Rattle.program.specs.declared.program.Program.{Program}
use Rattle.program.specs.declared.program.Queue.{Queue}
use Rattle.program.specs.declared.program.WaitFor.{WaitFor}
use Rattle.check_tighten.specs.Edits.{program_with, without_at}
use Rattle.check_tighten.specs.Own.{single_stages, own_stages, fitted, without_stage}

-- it breaks no rule, and is sound
pub record Passes (program : Program) : Type 0 where
  pub faultless : first_fault program ≡ None
  pub sound : IsSound program

-- the wait with the number k of batch b of queue q
pub record WaitAt (program : Program) (q b k : ℕ) (queue : Queue) (batch : Batch) (wait : WaitFor) : Type 0 where
  pub batch_at : BatchAt program q b queue batch
  pub wait_is : slice_get batch.waits k ≡ Some wait

-- without this wait the program does not pass
abbrev pub WaitNeeded : Program → ℕ → ℕ → ℕ → Batch → Type 0
WaitNeeded program q b k batch = Passes (program_with q b (without_at k batch.waits) program) → ⊥

-- nor with another in its place
abbrev pub NotAlso : Program → ℕ → ℕ → ℕ → Batch → WaitFor → Type 0
NotAlso program q b k batch other = Passes (program_with q b (slice_set batch.waits k other) program) → ⊥

-- THE LAW OF OWN STAGES

-- a program that passes does so with the own stages of any of its waits alone
abbrev pub OwnStagesDo : Type 0
OwnStagesDo =
    (program : Program) (q b k : ℕ) (queue : Queue) (batch : Batch) (wait : WaitFor)
    → Passes program → WaitAt program q b k queue batch wait → Passes (program_with q b (slice_set batch.waits k (fitted queue.family wait)) program)

-- WHAT IS NEEDED

-- the wait is needed, and each of its own stages, of which there is one at least: a wait of none breaks a rule. It has no
-- other stages
pub record NeededAt (program : Program) (q b k : ℕ) (queue : Queue) (batch : Batch) (wait : WaitFor) : Type 0 where
  pub whole : WaitNeeded program q b k batch
  pub stages : (i stage : ℕ) → slice_get single_stages i ≡ Some stage → has (own_stages queue.family wait.stages.0) stage ≡ true → NotAlso program q b k batch (without_stage queue.family stage wait)
  pub others : wait.stages.0 ≡ own_stages queue.family wait.stages.0

-- the program passes, and each of its waits is needed, stage by stage
pub record Tight (program : Program) : Type 0 where
  pub passes : Passes program
  pub needed : (q b k : ℕ) (queue : Queue) (batch : Batch) (wait : WaitFor) → WaitAt program q b k queue batch wait → NeededAt program q b k queue batch wait
