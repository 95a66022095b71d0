-- How what is submitted to a queue is cut into batches.
use Rattle.std.specs.Prelude.{ℕ, suc, List, [], ◌∷◌, length, Option, Some, None}
use Rattle.base.specs.declared.shape.Family.{Family}
use Rattle.program.specs.declared.program.Batch.{Batch}
use Rattle.program.specs.declared.program.Item.{Item}
use Rattle.program.specs.declared.program.Queue.{Queue}
use Rattle.program.specs.declared.program.Signal.{Signal}
use Rattle.program.specs.declared.program.WaitFor.{WaitFor}
use Rattle.compile_timeline.specs.Parts.{Part, Waits, Does, Signals, parts}
use Rattle.compile_timeline.specs.declared.step.Step.{Step}

abbrev pub batch : List WaitFor → List Item → Option Signal → Batch
batch waits items signal = record { waits = waits; items = items; signal = signal }

-- an item before a batch: into it, or into one of its own where that batch waits
abbrev pub item_before : Item → List WaitFor → List Item → Option Signal → List Batch → List Batch
item_before item [] items signal batches = batch [] (item ∷ items) signal ∷ batches
item_before item (wait ∷ waits) items signal batches = batch [] (item ∷ []) None ∷ batch (wait ∷ waits) items signal ∷ batches

-- a part before the batches of the later parts; a signal ends its batch
abbrev pub before : Part → List Batch → List Batch
before (Signals signal) batches = batch [] [] (Some signal) ∷ batches
before (Waits wait) [] = batch (wait ∷ []) [] None ∷ []
before (Waits wait) (b ∷ batches) = batch (wait ∷ b.waits) b.items b.signal ∷ batches
before (Does item) [] = batch [] (item ∷ []) None ∷ []
before (Does item) (b ∷ batches) = item_before item b.waits b.items b.signal batches

abbrev pub cut : List Part → List Batch
cut [] = []
cut (part ∷ parts) = before part (cut parts)

-- the queues of these families, from number q on, of so many
abbrev pub queues_from : List Step → ℕ → ℕ → List Family → List Queue
queues_from script count q [] = []
queues_from script count q (family ∷ families) = record { family = family; batches = cut (parts script count q) } ∷ queues_from script count (suc q) families

abbrev pub queues : List Step → List Family → List Queue
queues script families = queues_from script (length families) 0 families
