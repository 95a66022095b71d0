-- Which program `--tight` comes to: what may be left out is tried one after another, in rounds.
use Rattle.std.specs.Prelude.{◌≡◌, ◌⊎◌, ℕ, zero, suc, ◌+◌, List, [], length, slice_get, slice_set, Some, true}
use Rattle.std.specs.Option.{option_map_or}
use Rattle.vk.specs.Sets.{has}
use Rattle.program.specs.declared.program.Batch.{Batch}
use Rattle.program.specs.declared.program.Program.{Program}
use Rattle.program.specs.declared.program.Queue.{Queue}
use Rattle.program.specs.declared.program.WaitFor.{WaitFor}
use Rattle.check_tighten.specs.Edits.{program_with, without_at}
use Rattle.check_tighten.specs.Own.{single_stages, own_stages, fitted, without_stage}
use Rattle.check_tighten.specs.Tight.{Passes, WaitAt}

-- WHAT IS TRIED AT WAIT k OF BATCH b OF QUEUE q

-- the program without this wait
pub record LessWait (q b k : ℕ) (program candidate : Program) : Type 0 where
  pub queue : Queue
  pub batch : Batch
  pub wait : WaitFor
  pub at : WaitAt program q b k queue batch wait
  pub is : candidate ≡ program_with q b (without_at k batch.waits) program

-- with the wait's own stages but this one, where it has it
pub record LessStage (q b k stage : ℕ) (program candidate : Program) : Type 0 where
  pub queue : Queue
  pub batch : Batch
  pub wait : WaitFor
  pub at : WaitAt program q b k queue batch wait
  pub own : has (own_stages queue.family wait.stages.0) stage ≡ true
  pub is : candidate ≡ program_with q b (slice_set batch.waits k (without_stage queue.family stage wait)) program

-- with the wait's own stages alone, where it has others: a program that passes does so then too (`OwnStagesDo`)
pub record OwnAlone (q b k : ℕ) (program candidate : Program) : Type 0 where
  pub queue : Queue
  pub batch : Batch
  pub wait : WaitFor
  pub at : WaitAt program q b k queue batch wait
  pub others : wait.stages.0 ≡ own_stages queue.family wait.stages.0 → ⊥
  pub is : candidate ≡ program_with q b (slice_set batch.waits k (fitted queue.family wait)) program

-- TRIALS

-- it is what was tried, and passes
pub record Succeeds (Candidate : Program → Program → Type 0) (program now : Program) : Type 0 where
  pub candidate : Candidate program now
  pub passes : Passes now

abbrev pub Fails : (Program → Program → Type 0) → Program → Type 0
Fails Candidate program = (candidate : Program) → Candidate program candidate → Passes candidate → ⊥

-- what was tried where it passes, else the program as it was
abbrev pub Tries : (Program → Program → Type 0) → Program → Program → Type 0
Tries Candidate program now = Succeeds Candidate program now ⊎ (Fails Candidate program × (now ≡ program))

-- A ROUND

-- the first part, the second and so on, so many, each of what the one before it came to
abbrev pub InTurn : (ℕ → Program → Program → Type 0) → ℕ → Program → Program → Type 0
InTurn Part zero program now = now ≡ program
InTurn Part (suc count) program now = (last : Program) × InTurn Part count program last × Part count last now

-- single stage i of a wait
abbrev pub StageTurn : ℕ → ℕ → ℕ → ℕ → Program → Program → Type 0
StageTurn q b k i program now = (stage : ℕ) × (slice_get single_stages i ≡ Some stage) × Tries (LessStage q b k stage) program now

-- its stages in the order of their bits, and then all that are not its own, which always go
abbrev pub StagesTurn : ℕ → ℕ → ℕ → Program → Program → Type 0
StagesTurn q b k program now = (left : Program) × InTurn (StageTurn q b k) 5 program left × Tries (OwnAlone q b k) left now

-- a wait is left out, and the next one has its number; or it is needed, and stages of it may be left out
abbrev pub WaitTurn : ℕ → ℕ → ℕ → Program → Program → ℕ → Type 0
WaitTurn q b k program now next =
    (Succeeds (LessWait q b k) program now × (next ≡ k)) ⊎ (Fails (LessWait q b k) program × StagesTurn q b k program now × (next ≡ k + 1))

-- so many waits of a batch, in their order, and the number of the one that comes next
abbrev pub WaitsTurn : ℕ → ℕ → ℕ → Program → Program → ℕ → Type 0
WaitsTurn q b zero program now next = (now ≡ program) × (next ≡ 0)
WaitsTurn q b (suc count) program now next = (last : Program) × (k : ℕ) × WaitsTurn q b count program last k × WaitTurn q b k last now next

abbrev pub batches_at : Program → ℕ → List Batch
batches_at program q = option_map_or (λ queue. queue.batches) (slice_get program.queues q) []

abbrev pub waits_at : Program → ℕ → ℕ → List WaitFor
waits_at program q b = option_map_or (λ batch. batch.waits) (slice_get (batches_at program q) b) []

-- all waits that a batch has
abbrev pub BatchTurn : ℕ → ℕ → Program → Program → Type 0
BatchTurn q b program now = (next : ℕ) × WaitsTurn q b (length (waits_at program q b)) program now next

abbrev pub QueueTurn : ℕ → Program → Program → Type 0
QueueTurn q program now = InTurn (BatchTurn q) (length (batches_at program q)) program now

-- each wait is tried, queue by queue, batch by batch
abbrev pub Round : Program → Program → Type 0
Round program now = InTurn QueueTurn (length program.queues) program now

-- ROUNDS

-- so many that change something, and one that changes nothing
abbrev pub Rounds : ℕ → Program → Program → Type 0
Rounds zero program now = Round program program × (now ≡ program)
Rounds (suc count) program now = (next : Program) × Round program next × (next ≡ program → ⊥) × Rounds count next now

-- what is left of a program after rounds until one changes nothing
abbrev pub IsTightened : Program → Program → Type 0
IsTightened program now = (count : ℕ) × Rounds count program now
