-- What a program may have at most.
use Rattle.std.specs.Prelude.{ℕ, List, [], ◌∷◌, ◌+◌, length, ◌-◌, nat_le, nat_lt, not, Option, Some, None, Result, Ok, Err, if◌then◌else◌}
use Rattle.std.specs.List.{position}
use Rattle.std.specs.Option.{option_or, option_map}
use Rattle.base.specs.Bounds.{is_between, sides_allowed, size_allowed}
use Rattle.base.specs.Broken.{over_limit}
use Rattle.base.specs.Maxima.{max_queues, max_memories, max_pieces, max_nodes, max_rects, max_readbacks, max_memory_bytes}
use Rattle.base.specs.Rooms.{spend_in, not_lasting, first_over}
use Rattle.base.specs.declared.broken.Broken.{Broken}
use Rattle.base.specs.Operands.{rect_count}
use Rattle.base.specs.declared.limit.Limit.{Limit}
use Rattle.base.specs.declared.limit.Limit.TheVariants as limits
use Rattle.program.specs.Entries.{entries_of}
use Rattle.program.specs.declared.location.Location.{Location}
use Rattle.program.specs.declared.location.Location.TheVariants as at
use Rattle.program.specs.declared.program.Batch.{Batch}
use Rattle.program.specs.declared.program.Item.{Item}
use Rattle.program.specs.declared.program.Item.TheVariants.{Command}
use Rattle.program.specs.declared.program.Memory.{Memory}
use Rattle.program.specs.declared.program.Memory.TheVariants.{Plain, Import}
use Rattle.program.specs.declared.program.Piece.{Piece}
use Rattle.program.specs.declared.program.Program.{Program}
use Rattle.program.specs.declared.program.Queue.{Queue}
use Rattle.program.specs.declared.rule.Rule.{Rule}
use Rattle.program.specs.declared.rule.Rule.TheVariants as rules

abbrev pub over : Limit → Location → Broken Rule Location
over limit location = over_limit rules.Limits limit location

abbrev pub memory_bytes : Memory → ℕ
memory_bytes (Plain size) = size
memory_bytes (Import bytes) = length bytes

-- of all memories together
abbrev pub all_bytes : List Memory → ℕ
all_bytes [] = 0
all_bytes (memory ∷ memories) = memory_bytes memory + all_bytes memories

abbrev pub rects_of : Item → ℕ
rects_of (Command op) = rect_count op
rects_of item = 0

-- what is left of a room of rectangles after an item, a batch, a queue
abbrev pub spend_item : ℕ → ℕ → ℕ → ℕ → Item → Result ℕ Location
spend_item q b room k item = if nat_lt room (rects_of item) then Err (at.Item q b k) else Ok (room - rects_of item)

abbrev pub spend_batch : ℕ → ℕ → ℕ → Batch → Result ℕ Location
spend_batch q room b batch = spend_in (spend_item q b) room 0 batch.items

abbrev pub spend_queue : ℕ → ℕ → Queue → Result ℕ Location
spend_queue room q queue = spend_in (spend_batch q) room 0 queue.batches

-- the first item with which the rectangles are more than one program may have
abbrev pub rects_over : List Queue → Option Location
rects_over queues = not_lasting (spend_in spend_queue max_rects 0 queues)

-- the limits on what stands in the lists
abbrev pub count_broken : Program → Option (Broken Rule Location)
count_broken program =
    option_or (if is_between 1 max_queues (length program.queues) then None else Some (over limits.Queues at.Queues))
    (option_or (if nat_le (length program.memories) max_memories then None else Some (over limits.Memories at.Memories))
    (option_or (if nat_le (length program.pieces) max_pieces then None else Some (over limits.Pieces at.Pieces))
    (option_or (if nat_le (length (entries_of program)) max_nodes then None else Some (over limits.Nodes at.Whole))
    (option_or (option_map (over limits.Rects) (rects_over program.queues))
    (if nat_le (length program.readbacks) max_readbacks then None else Some (over limits.Readbacks at.Readbacks))))))

-- the limits on each piece, and on the bytes of all memories: at the first memory with which they are more
abbrev pub size_broken : Program → Option (Broken Rule Location)
size_broken program =
    option_or (option_map (λ i. over limits.Side (at.Piece i)) (position (λ piece. not (sides_allowed piece.shape)) program.pieces))
    (option_or (option_map (λ i. over limits.Size (at.Piece i)) (position (λ piece. not (size_allowed piece.shape)) program.pieces))
    (option_map (λ i. over limits.Total (at.Memory i)) (first_over memory_bytes max_memory_bytes 0 program.memories)))

abbrev pub limit_broken : Program → Option (Broken Rule Location)
limit_broken program = option_or (count_broken program) (size_broken program)
