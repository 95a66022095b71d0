-- A program that differs from a given one in its waits alone: some are left out, and of others some stages.
use Rattle.std.specs.Prelude.{◌≡◌, ◌⊎◌, List, [], ◌∷◌, true}
use Rattle.vk.specs.Sets.{has}
use Rattle.vk.specs.Stages.{expand}
use Rattle.program.specs.declared.program.Batch.{Batch}
use Rattle.program.specs.declared.program.Program.{Program}
use Rattle.program.specs.declared.program.Queue.{Queue}
use Rattle.program.specs.declared.program.WaitFor.{WaitFor}

-- for the same queue and value; its stages are some of those that the given wait's stand for, or as they were
pub record Narrows (given wait : WaitFor) : Type 0 where
  pub queue : wait.queue ≡ given.queue
  pub value : wait.value ≡ given.value
  pub some : has (expand given.stages.0) (expand wait.stages.0) ≡ true
  pub stages : (wait.stages ≡ given.stages) ⊎ (has (expand given.stages.0) wait.stages.0 ≡ true)

-- each stands for one of the given waits, in their order
abbrev pub WaitsStand : List WaitFor → List WaitFor → Type 0
WaitsStand given [] = Unit {0}
WaitsStand [] (wait ∷ waits) = ⊥
WaitsStand (first ∷ given) (wait ∷ waits) = (Narrows first wait × WaitsStand given waits) ⊎ WaitsStand given (wait ∷ waits)

-- entry by entry, as many of the one as of the other
abbrev pub Pairwise : {X : Type 0} → (X → X → Type 0) → List X → List X → Type 0
Pairwise Stands [] [] = Unit {0}
Pairwise Stands [] (y ∷ ys) = ⊥
Pairwise Stands (x ∷ xs) [] = ⊥
Pairwise Stands (x ∷ xs) (y ∷ ys) = Stands x y × Pairwise Stands xs ys

pub record BatchStands (given batch : Batch) : Type 0 where
  pub waits : WaitsStand given.waits batch.waits
  pub items : batch.items ≡ given.items
  pub signal : batch.signal ≡ given.signal

pub record QueueStands (given queue : Queue) : Type 0 where
  pub family : queue.family ≡ given.family
  pub batches : Pairwise BatchStands given.batches queue.batches

pub record StandsTo (given program : Program) : Type 0 where
  pub memories : program.memories ≡ given.memories
  pub pieces : program.pieces ≡ given.pieces
  pub queues : Pairwise QueueStands given.queues program.queues
  pub readbacks : program.readbacks ≡ given.readbacks
