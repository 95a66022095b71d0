-- What a part of a round does to a program.
use Rattle.std.specs.Prelude.{◌≡◌, ℕ, ◌<◌, Bool, true, false, slice_get, Some}
use Rattle.base.specs.declared.shape.Family.{Family}
use Rattle.vk.specs.Sets.{has}
use Rattle.program.specs.declared.program.Batch.{Batch}
use Rattle.program.specs.declared.program.Program.{Program}
use Rattle.program.specs.declared.program.Queue.{Queue}
use Rattle.program.specs.declared.program.WaitFor.{WaitFor}
use Rattle.check_tighten.specs.Internal.Weights.{weight}
use Rattle.check_tighten.specs.Own.{single_stages, own_stages, fitted, without_stage}
use Rattle.check_tighten.specs.Standing.{StandsTo}
use Rattle.check_tighten.specs.Tight.{Passes, WaitAt, WaitNeeded, NotAlso}

-- the candidate, where it passes; else what was there
pub record Tried (program candidate now : Program) (changed : Bool) : Type 0 where
  pub proved_sound : changed ≡ true → (now ≡ candidate) × Passes candidate
  pub refused : changed ≡ false → (now ≡ program) × (Passes candidate → ⊥)

-- what a program came to, and whether it was changed
pub record Came (program now : Program) (changed : Bool) : Type 0 where
  pub passes : Passes program → Passes now
  pub same : changed ≡ false → now ≡ program
  pub lighter : changed ≡ true → weight now < weight program
  pub stands : (given : Program) → StandsTo given program → StandsTo given now

-- WHAT WAS TRIED IN VAIN, WHERE NOTHING WAS CHANGED

abbrev pub WaitTried : Program → ℕ → ℕ → ℕ → Type 0
WaitTried program q b k = (queue : Queue) (batch : Batch) (wait : WaitFor) → WaitAt program q b k queue batch wait → WaitNeeded program q b k batch

abbrev pub StageTried : Program → ℕ → ℕ → ℕ → ℕ → Type 0
StageTried program q b k stage = (queue : Queue) (batch : Batch) (wait : WaitFor) → WaitAt program q b k queue batch wait → has (own_stages queue.family wait.stages.0) stage ≡ true → NotAlso program q b k batch (without_stage queue.family stage wait)

-- the single stage with the number i
abbrev pub StageNumberTried : ℕ → ℕ → ℕ → Program → ℕ → Type 0
StageNumberTried q b k program i = (stage : ℕ) → slice_get single_stages i ≡ Some stage → StageTried program q b k stage

abbrev pub FitTried : Program → ℕ → ℕ → ℕ → Type 0
FitTried program q b k = (queue : Queue) (batch : Batch) (wait : WaitFor) → WaitAt program q b k queue batch wait → (wait.stages.0 ≡ own_stages queue.family wait.stages.0 → ⊥) → NotAlso program q b k batch (fitted queue.family wait)

-- all that was tried at a wait
pub record TriedAt (program : Program) (q b k : ℕ) (queue : Queue) (batch : Batch) (wait : WaitFor) : Type 0 where
  pub whole : WaitNeeded program q b k batch
  pub stages : (i stage : ℕ) → slice_get single_stages i ≡ Some stage → has (own_stages queue.family wait.stages.0) stage ≡ true → NotAlso program q b k batch (without_stage queue.family stage wait)
  pub others : (wait.stages.0 ≡ own_stages queue.family wait.stages.0 → ⊥) → NotAlso program q b k batch (fitted queue.family wait)

abbrev pub WaitDone : ℕ → ℕ → Program → ℕ → Type 0
WaitDone q b program k = (queue : Queue) (batch : Batch) (wait : WaitFor) → WaitAt program q b k queue batch wait → TriedAt program q b k queue batch wait

abbrev pub BatchDone : ℕ → Program → ℕ → Type 0
BatchDone q program b = (k : ℕ) → WaitDone q b program k

abbrev pub QueueDone : Program → ℕ → Type 0
QueueDone program q = (b : ℕ) → BatchDone q program b

-- parts 0 to count - 1 of a round
pub record Walked (Done : Program → ℕ → Type 0) (program now : Program) (changed : Bool) (count : ℕ) : Type 0 where
  pub came : Came program now changed
  pub done : changed ≡ false → (i : ℕ) → i < count → Done program i

-- the wait that stands at a place, and the family of its queue
pub record StandsAt (program : Program) (q b k : ℕ) (family : Family) (wait : WaitFor) : Type 0 where
  pub queue : Queue
  pub batch : Batch
  pub family_is : queue.family ≡ family
  pub at : WaitAt program q b k queue batch wait

-- there is a wait at a place
pub record HasWait (program : Program) (q b k : ℕ) : Type 0 where
  pub queue : Queue
  pub batch : Batch
  pub wait : WaitFor
  pub at : WaitAt program q b k queue batch wait
