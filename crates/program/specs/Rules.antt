-- The rules on each part of a program, and the first location where one is broken.
use Rattle.std.specs.Prelude.{ℕ, List, length, take, map, nat_lt, nat_le, not, Bool, true, Option, Some, None, if◌then◌else◌}
use Rattle.std.specs.List.{position}
use Rattle.std.specs.Option.{option_or, option_map}
use Rattle.base.specs.Runs.{runs}
use Rattle.base.specs.Shapes.{is_buffer}
use Rattle.base.specs.Walks.{first_in}
use Rattle.base.specs.declared.shape.Family.{Family}
use Rattle.base.specs.declared.shape.Shape.{Shape}
use Rattle.program.specs.Barriers.{masks_are, has_stages, both_have_stages, nothing_ignored, both_supported, both_on_family, on_queue}
use Rattle.program.specs.Numbers.{has_piece, item_known}
use Rattle.program.specs.Ranges.{piece_in_range, item_in_range, is_so}
use Rattle.program.specs.Timelines.{highest}
use Rattle.program.specs.declared.location.Location.{Location}
use Rattle.program.specs.declared.location.Location.TheVariants as at
use Rattle.program.specs.declared.program.Batch.{Batch}
use Rattle.program.specs.declared.program.Item.{Item}
use Rattle.program.specs.declared.program.Item.TheVariants.{Command}
use Rattle.program.specs.declared.program.Memory.{Memory}
use Rattle.program.specs.declared.program.Piece.{Piece}
use Rattle.program.specs.declared.program.Program.{Program}
use Rattle.program.specs.declared.program.Queue.{Queue}
use Rattle.program.specs.declared.program.Signal.{Signal}
use Rattle.program.specs.declared.program.WaitFor.{WaitFor}
use Rattle.program.specs.declared.rule.Rule.{Rule}
use Rattle.program.specs.declared.rule.Rule.TheVariants as rules

-- WHICH PARTS OBEY A RULE

abbrev pub piece_obeys : Rule → List Memory → Piece → Bool
piece_obeys rules.Range memories piece = piece_in_range memories piece
piece_obeys rules.Known memories piece = nat_lt piece.memory (length memories)
piece_obeys rule memories piece = true

-- of so many queues, on a queue of a family
abbrev pub wait_obeys : Rule → ℕ → Family → WaitFor → Bool
wait_obeys rules.Known count family wait = nat_lt wait.queue count
wait_obeys rules.Stages count family wait = has_stages wait.stages.0
wait_obeys rules.OnQueue count family wait = on_queue family wait.stages.0
wait_obeys rules.Timeline count family wait = nat_le 1 wait.value
wait_obeys rule count family wait = true

abbrev pub item_runs : Family → Item → Bool
item_runs family (Command op) = runs op family
item_runs family item = true

abbrev pub item_obeys : Rule → List Shape → Family → Item → Bool
item_obeys rules.Limits shapes family item = true
item_obeys rules.Range shapes family item = item_in_range shapes family item
item_obeys rules.Known shapes family item = item_known shapes item
item_obeys rules.Stages shapes family item = masks_are both_have_stages item
item_obeys rules.Ignored shapes family item = nothing_ignored item
item_obeys rules.Supported shapes family item = masks_are both_supported item
item_obeys rules.OnQueue shapes family item = masks_are (both_on_family family) item
item_obeys rules.Runs shapes family item = item_runs family item
item_obeys rules.Timeline shapes family item = true

-- where the signals before it reach a value
abbrev pub signal_obeys : Rule → Family → ℕ → Signal → Bool
signal_obeys rules.Stages family reached signal = has_stages signal.stages.0
signal_obeys rules.OnQueue family reached signal = on_queue family signal.stages.0
signal_obeys rules.Timeline family reached signal = nat_lt reached signal.value
signal_obeys rule family reached signal = true

abbrev pub readback_obeys : Rule → List Shape → ℕ → Bool
readback_obeys rules.Range shapes piece = is_so is_buffer shapes piece
readback_obeys rules.Known shapes piece = has_piece shapes piece
readback_obeys rule shapes piece = true

-- THE FIRST PLACE

abbrev pub signal_place : Rule → Family → ℕ → ℕ → ℕ → Option Signal → Option Location
signal_place rule family reached q b None = None
signal_place rule family reached q b (Some signal) = if signal_obeys rule family reached signal then None else Some (at.Signal q b)

-- in batch b of a queue: its waits, its items, its signal
abbrev pub batch_place : Rule → ℕ → List Shape → Family → ℕ → ℕ → ℕ → Batch → Option Location
batch_place rule count shapes family reached q b batch =
    option_or (option_map (λ k. at.Wait q b k) (position (λ wait. not (wait_obeys rule count family wait)) batch.waits))
    (option_or (option_map (λ k. at.Item q b k) (position (λ item. not (item_obeys rule shapes family item)) batch.items))
    (signal_place rule family reached q b batch.signal))

-- batch b, after the batches before it
abbrev pub next_place : Rule → ℕ → List Shape → Family → ℕ → List Batch → ℕ → Batch → Option Location
next_place rule count shapes family q batches b batch = batch_place rule count shapes family (highest (take b batches)) q b batch

abbrev pub queue_place : Rule → ℕ → List Shape → ℕ → Queue → Option Location
queue_place rule count shapes q queue = first_in (next_place rule count shapes queue.family q queue.batches) 0 queue.batches

abbrev pub shapes_of : Program → List Shape
shapes_of program = map (λ piece. piece.shape) program.pieces

-- pieces, queues and readbacks, in this order
abbrev pub broken_at : Rule → Program → List Shape → Option Location
broken_at rule program shapes =
    option_or (option_map (λ i. at.Piece i) (position (λ piece. not (piece_obeys rule program.memories piece)) program.pieces))
    (option_or (first_in (queue_place rule (length program.queues) shapes) 0 program.queues)
    (option_map (λ k. at.Readback k) (position (λ piece. not (readback_obeys rule shapes piece)) program.readbacks)))
