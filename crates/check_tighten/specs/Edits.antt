-- A program with other waits at one of its batches.
use Rattle.std.specs.Prelude.{ℕ, zero, suc, List, [], ◌∷◌, ◌++◌, take, drop}
use Rattle.program.specs.declared.program.Batch.{Batch}
use Rattle.program.specs.declared.program.Program.{Program}
use Rattle.program.specs.declared.program.Queue.{Queue}
use Rattle.program.specs.declared.program.WaitFor.{WaitFor}

-- the list with entry k changed
abbrev pub changed_at : {X : Type 0} → (X → X) → ℕ → List X → List X
changed_at change k [] = []
changed_at change zero (x ∷ xs) = change x ∷ xs
changed_at change (suc k) (x ∷ xs) = x ∷ changed_at change k xs

abbrev pub batch_with : List WaitFor → Batch → Batch
batch_with waits batch = record { waits = waits; items = batch.items; signal = batch.signal }

abbrev pub queue_with : ℕ → List WaitFor → Queue → Queue
queue_with b waits queue = record { family = queue.family; batches = changed_at (batch_with waits) b queue.batches }

-- with these waits at batch b of queue q
abbrev pub program_with : ℕ → ℕ → List WaitFor → Program → Program
program_with q b waits program = record {
  memories = program.memories;
  pieces = program.pieces;
  queues = changed_at (queue_with b waits) q program.queues;
  readbacks = program.readbacks;
}

-- the list without entry k
abbrev pub without_at : {X : Type 0} → ℕ → List X → List X
without_at k xs = take k xs ++ drop (suc k) xs
