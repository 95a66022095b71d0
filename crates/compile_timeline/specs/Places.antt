-- The parts of all queues with their steps, and their numbers among the nodes of the program.
use Rattle.std.specs.Prelude.{ℕ, ◌+◌, List, map, length}
use Rattle.program.specs.Entries.{Entry, OfWait, OfItem, OfSignal}
use Rattle.compile_timeline.specs.Below.{all_below}
use Rattle.compile_timeline.specs.Parts.{Part, Waits, Does, Signals, when, wait_for, waits_at, parts_at}
use Rattle.compile_timeline.specs.Waits.{waits}
use Rattle.compile_timeline.specs.declared.step.Step.{Step}

pub record Place : Type 0 where
  pub queue : ℕ
  pub step : ℕ
  pub part : Part

abbrev pub place : ℕ → ℕ → Part → Place
place q i part = record { queue = q; step = i; part = part }

abbrev pub step_places : List Step → ℕ → ℕ → ℕ → List Place
step_places script count q i = map (place q i) (parts_at script count q i)

abbrev pub queue_places : List Step → ℕ → ℕ → List Place
queue_places script count q = all_below (step_places script count q) (length script)

-- queue by queue
abbrev pub places : List Step → ℕ → List Place
places script count = all_below (queue_places script count) count

abbrev pub part_entry : ℕ → Part → Entry
part_entry q (Waits wait) = OfWait q wait
part_entry q (Does item) = OfItem q item
part_entry q (Signals signal) = OfSignal q signal

-- the node at a place
abbrev pub entry_of : Place → Entry
entry_of place = part_entry place.queue place.part

-- NUMBERS

-- of part j of step i on queue q
abbrev pub number : List Step → ℕ → ℕ → ℕ → ℕ → ℕ
number script count q i j = length (all_below (queue_places script count) q) + (length (all_below (step_places script count q) i) + j)

-- of the wait for queue p before the item of queue q at place i
abbrev pub wait_number : List Step → ℕ → ℕ → ℕ → ℕ → ℕ
wait_number script count q i p = number script count q i (length (all_below (λ r. when (waits script q i r) (Waits (wait_for script count q i r))) p))

-- of that item
abbrev pub item_number : List Step → ℕ → ℕ → ℕ → ℕ
item_number script count q i = number script count q i (length (waits_at script count q i))

-- of the signal after it
abbrev pub signal_number : List Step → ℕ → ℕ → ℕ → ℕ
signal_number script count q i = item_number script count q i + 1
