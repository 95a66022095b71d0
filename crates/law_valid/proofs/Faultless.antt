-- Where each part obeys each rule and no limit is gone over, there is no fault.
--
-- What each rule asks, and why a compiled program obeys it:
--
--   rule      of what            because
--   Limits    queues             a queue for each family of the frame, of which there are 1 to 4
--             memories, pieces   at most one for each unit and export, and the heap: 289, of 512
--             nodes              at most 2 barriers before and a release after each of 4 uses of 288 commands, 32 barriers for the host,
--                                each with at most 3 waits and a signal, and 32 host reads: 18,912, of 20,000
--             rectangles         those of the frame's draws, each recorded once
--             readbacks          one for each export
--             sides, sizes       those of the frame's units; the buffer of an export has the bytes of its unit
--             bytes              units and exports, each once, and a granule for each placed unit
--   Range     pieces             the heap holds the least places, at multiples of 256; imports and readbacks have memories of their size
--             commands           they fit the shapes of units, and each unit is one piece
--             barriers           a group's layout is there exactly for an image, and is a known one
--             transfers          only between groups that do not share the unit: then their families differ
--             readbacks          they are buffers
--   Known     all                what is used has a piece, and each piece a memory
--   Stages    barriers           the first or the last member of a group has a stage on the barrier's queue
--             waits, signals     they are of all commands
--   Ignored   transfers          their masks are empty where they are not looked at
--   Supported barriers           each use's stage supports its accesses, and more stages support more
--   OnQueue   barriers           a use's stage is one of its queue's family, and masks are of uses on one queue
--   Runs      commands           an operation's queue runs it, and any queue runs the copy of an export
--   Timeline  waits, signals     values count the signals of a queue from 1 on
use Rattle.std.proofs.Common.{◌≡◌, ℕ, suc, ◌+◌, ◌≤◌, nat_le, not, Bool, true, List, [], ◌∷◌, length, take, slice_get, if◌then◌else◌, Option, Some, None, IfSome, refl, ap, subst, arith}
use Rattle.std.specs.List.{All, position, position_or_len}
use Rattle.std.specs.Option.{option_or, option_map}
use Rattle.std.proofs.lemmas.Bool.{le-leb, le-ltb, and_from}
use Rattle.std.proofs.lemmas.List.Elements.{All-head, All-tail}
use Rattle.base.proofs.Absence.{passes_test}
use Rattle.base.proofs.Rooms.{never_over}
use Rattle.base.specs.Bounds.{is_between, sides_allowed, size_allowed}
use Rattle.base.specs.Broken.{of_rule}
use Rattle.base.specs.Maxima.{max_queues, max_memories, max_pieces, max_nodes, max_readbacks, max_memory_bytes}
use Rattle.base.specs.Rooms.{first_over}
use Rattle.base.specs.Walks.{first_in}
use Rattle.base.specs.declared.limit.Limit.TheVariants as limits
use Rattle.frame.proofs.Sufficient.{both_none}
use Rattle.program.proofs.Few.{bytes_sum}
use Rattle.program.specs.Entries.{entries_of}
use Rattle.program.specs.FirstFault.{rule_broken, form_broken, use_broken, rules_broken, first_broken, first_fault}
use Rattle.program.specs.Limits.{over, memory_bytes, rects_over, count_broken, size_broken, limit_broken}
use Rattle.program.specs.Obeys.{BatchObeys, Obeys, IsSmall}
use Rattle.program.specs.Paths.{fault_of}
use Rattle.program.specs.Rules.{piece_obeys, wait_obeys, item_obeys, signal_obeys, readback_obeys, signal_place, batch_place, next_place, queue_place, broken_at, shapes_of}
use Rattle.program.specs.Timelines.{highest}
use Rattle.program.specs.declared.location.Location.TheVariants as at
use Rattle.program.specs.declared.program.Batch.{Batch}
use Rattle.program.specs.declared.program.Piece.{Piece}
use Rattle.program.specs.declared.program.Program.{Program}
use Rattle.program.specs.declared.program.Queue.{Queue}
use Rattle.program.specs.declared.program.Signal.{Signal}
use Rattle.program.specs.declared.rule.Rule.{Rule}
use Rattle.program.specs.declared.rule.Rule.TheVariants as rules

-- NOTHING IS FOUND

no_place : {X : Type 0} (test : X → Bool) (xs : List X) → All (λ x. test x ≡ true) xs → length xs ≤ position_or_len (λ x. not (test x)) xs
no_place test [] all = omega arith
no_place test (x ∷ xs) all =
    let rest = no_place test xs (All-tail (λ y. test y ≡ true) x xs all) in
    let here : position_or_len (λ y. not (test y)) (x ∷ xs) ≡ 1 + position_or_len (λ y. not (test y)) xs = ap (λ b. if not (not b) then 1 + position_or_len (λ y. not (test y)) xs else 0) (All-head (λ y. test y ≡ true) x xs all) in
    omega (arith, here, rest)

pub none_fails : {X : Type 0} (test : X → Bool) (xs : List X) → All (λ x. test x ≡ true) xs → position (λ x. not (test x)) xs ≡ None
none_fails test xs all = ap (λ b. if b then Some (position_or_len (λ x. not (test x)) xs) else None) (le-ltb (position_or_len (λ x. not (test x)) xs) (length xs) (no_place test xs all))

mapped_none : {X Y : Type 0} (f : X → Y) (o : Option X) → o ≡ None → option_map f o ≡ None
mapped_none f o e = ap (option_map f) e

all_none : {X Y : Type 0} (rule : ℕ → X → Option Y) (i : ℕ) (xs : List X) → ((k : ℕ) (x : X) → slice_get xs k ≡ Some x → rule (i + k) x ≡ None) → first_in rule i xs ≡ None
all_none rule i [] each = refl
all_none rule i (x ∷ xs) each =
    let z : i + 0 ≡ i = omega arith in
    both_none (rule i x) (first_in rule (suc i) xs) (subst (λ n. rule n x ≡ None) z (each 0 x refl))
    (all_none rule (suc i) xs (λ k y is. let next : i + suc k ≡ suc i + k = omega arith in subst (λ n. rule n y ≡ None) next (each (suc k) y is)))

from_first : {X Y : Type 0} (rule : ℕ → X → Option Y) (xs : List X) → ((k : ℕ) (x : X) → slice_get xs k ≡ Some x → rule k x ≡ None) → first_in rule 0 xs ≡ None
from_first rule xs each = all_none rule 0 xs (λ k x is. let z : k ≡ 0 + k = omega arith in subst (λ n. rule n x ≡ None) z (each k x is))

-- EACH RULE

signal_none : (rule : Rule) (queue : Queue) (reached q b : ℕ) (signal : Option Signal) → IfSome signal (λ s. signal_obeys rule queue.family reached s ≡ true) → signal_place rule queue.family reached q b signal ≡ None
signal_none rule queue reached q b None h = refl
signal_none rule queue reached q b (Some signal) h = passes_test (signal_obeys rule queue.family reached signal) (at.Signal q b) h

batch_none : (rule : Rule) (program : Program) (queue : Queue) (q b : ℕ) (batch : Batch) → BatchObeys rule program queue b batch → batch_place rule (length program.queues) (shapes_of program) queue.family (highest (take b queue.batches)) q b batch ≡ None
batch_none rule program queue q b batch O =
    let waits = position (λ wait. not (wait_obeys rule (length program.queues) queue.family wait)) batch.waits in
    let items = position (λ item. not (item_obeys rule (shapes_of program) queue.family item)) batch.items in
    let signal = signal_place rule queue.family (highest (take b queue.batches)) q b batch.signal in
    both_none (option_map (λ k. at.Wait q b k) waits) (option_or (option_map (λ k. at.Item q b k) items) signal)
    (mapped_none (λ k. at.Wait q b k) waits (none_fails (wait_obeys rule (length program.queues) queue.family) batch.waits O.waits))
    (both_none (option_map (λ k. at.Item q b k) items) signal
    (mapped_none (λ k. at.Item q b k) items (none_fails (item_obeys rule (shapes_of program) queue.family) batch.items O.items))
    (signal_none rule queue (highest (take b queue.batches)) q b batch.signal O.signal))

rule_none : (rule : Rule) (program : Program) → Obeys rule program → rule_broken rule program (shapes_of program) ≡ None
rule_none rule program O =
    let shapes = shapes_of program in
    let count = length program.queues in
    let pieces = option_map (λ i. at.Piece i) (position (λ piece. not (piece_obeys rule program.memories piece)) program.pieces) in
    let queues = first_in (queue_place rule count shapes) 0 program.queues in
    let readbacks = option_map (λ k. at.Readback k) (position (λ piece. not (readback_obeys rule shapes piece)) program.readbacks) in
    mapped_none (of_rule rule) (broken_at rule program shapes)
    (both_none pieces (option_or queues readbacks)
    (mapped_none (λ i. at.Piece i) (position (λ piece. not (piece_obeys rule program.memories piece)) program.pieces) (none_fails (piece_obeys rule program.memories) program.pieces O.pieces))
    (both_none queues readbacks
    (from_first (queue_place rule count shapes) program.queues (λ q queue is.
    from_first (next_place rule count shapes queue.family q queue.batches) queue.batches (λ b batch there.
    batch_none rule program queue q b batch (O.batches q b queue batch (record { queue_is = is; batch_is = there })))))
    (mapped_none (λ k. at.Readback k) (position (λ piece. not (readback_obeys rule shapes piece)) program.readbacks) (none_fails (readback_obeys rule shapes) program.readbacks O.readbacks))))

-- LIMITS

limits_none : (program : Program) → IsSmall program → rects_over program.queues ≡ None → limit_broken program ≡ None
limits_none program small rects =
    let queues = if is_between 1 max_queues (length program.queues) then None else Some (over limits.Queues at.Queues) in
    let memories = if nat_le (length program.memories) max_memories then None else Some (over limits.Memories at.Memories) in
    let pieces = if nat_le (length program.pieces) max_pieces then None else Some (over limits.Pieces at.Pieces) in
    let nodes = if nat_le (length (entries_of program)) max_nodes then None else Some (over limits.Nodes at.Whole) in
    let drawn = option_map (over limits.Rects) (rects_over program.queues) in
    let readbacks = if nat_le (length program.readbacks) max_readbacks then None else Some (over limits.Readbacks at.Readbacks) in
    let sides = option_map (λ i. over limits.Side (at.Piece i)) (position (λ piece. not (sides_allowed piece.shape)) program.pieces) in
    let sizes = option_map (λ i. over limits.Size (at.Piece i)) (position (λ piece. not (size_allowed piece.shape)) program.pieces) in
    let bytes = option_map (λ i. over limits.Total (at.Memory i)) (first_over memory_bytes max_memory_bytes 0 program.memories) in
    both_none (count_broken program) (size_broken program)
    (both_none queues (option_or memories (option_or pieces (option_or nodes (option_or drawn readbacks))))
    (passes_test (is_between 1 max_queues (length program.queues)) (over limits.Queues at.Queues) (and_from (nat_le 1 (length program.queues)) (nat_le (length program.queues) max_queues) (le-leb 1 (length program.queues) small.some_queue) (le-leb (length program.queues) max_queues small.queues)))
    (both_none memories (option_or pieces (option_or nodes (option_or drawn readbacks)))
    (passes_test (nat_le (length program.memories) max_memories) (over limits.Memories at.Memories) (le-leb (length program.memories) max_memories small.memories))
    (both_none pieces (option_or nodes (option_or drawn readbacks))
    (passes_test (nat_le (length program.pieces) max_pieces) (over limits.Pieces at.Pieces) (le-leb (length program.pieces) max_pieces small.pieces))
    (both_none nodes (option_or drawn readbacks)
    (passes_test (nat_le (length (entries_of program)) max_nodes) (over limits.Nodes at.Whole) (le-leb (length (entries_of program)) max_nodes small.entries))
    (both_none drawn readbacks
    (mapped_none (over limits.Rects) (rects_over program.queues) rects)
    (passes_test (nat_le (length program.readbacks) max_readbacks) (over limits.Readbacks at.Readbacks) (le-leb (length program.readbacks) max_readbacks small.readbacks)))))))
    (both_none sides (option_or sizes bytes)
    (mapped_none (λ i. over limits.Side (at.Piece i)) (position (λ piece. not (sides_allowed piece.shape)) program.pieces) (none_fails (λ (piece : Piece). sides_allowed piece.shape) program.pieces small.sides))
    (both_none sizes bytes
    (mapped_none (λ i. over limits.Size (at.Piece i)) (position (λ piece. not (size_allowed piece.shape)) program.pieces) (none_fails (λ (piece : Piece). size_allowed piece.shape) program.pieces small.sizes))
    (mapped_none (λ i. over limits.Total (at.Memory i)) (first_over memory_bytes max_memory_bytes 0 program.memories) (never_over memory_bytes program.memories max_memory_bytes 0 (let same = bytes_sum program.memories in let few = small.bytes in omega (arith, same, few))))))

-- ALL

pub faultless : (program : Program) → IsSmall program → rects_over program.queues ≡ None → ((rule : Rule) → Obeys rule program) → first_fault program ≡ None
faultless program small rects obeys =
    let shapes = shapes_of program in
    let by = λ (rule : Rule). rule_broken rule program shapes in
    let none = λ (rule : Rule). rule_none rule program (obeys rule) in
    mapped_none fault_of (first_broken program)
    (both_none (limit_broken program) (rules_broken program shapes)
    (limits_none program small rects)
    (both_none (form_broken program shapes) (use_broken program shapes)
    (both_none (by rules.Range) (option_or (by rules.Known) (option_or (by rules.Stages) (by rules.Ignored)))
    (none rules.Range)
    (both_none (by rules.Known) (option_or (by rules.Stages) (by rules.Ignored))
    (none rules.Known)
    (both_none (by rules.Stages) (by rules.Ignored) (none rules.Stages) (none rules.Ignored))))
    (both_none (by rules.Supported) (option_or (by rules.OnQueue) (option_or (by rules.Runs) (by rules.Timeline)))
    (none rules.Supported)
    (both_none (by rules.OnQueue) (option_or (by rules.Runs) (by rules.Timeline))
    (none rules.OnQueue)
    (both_none (by rules.Runs) (by rules.Timeline) (none rules.Runs) (none rules.Timeline))))))
