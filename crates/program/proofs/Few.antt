-- A program that breaks no rule is small.
use Rattle.std.proofs.Common.{◌≡◌, ◌≤◌, ◌+◌, true, nat_le, not, List, [], ◌∷◌, Option, Some, None, length, if◌then◌else◌, refl, ap, ◌∙◌, arith}
use Rattle.std.specs.List.{position, sum_by}
use Rattle.std.specs.Option.{option_or, option_map}
use Rattle.std.proofs.lemmas.Bool.{leb-true, and_parts}
use Rattle.std.proofs.lemmas.List.Sums.{sum_by-cons}
use Rattle.base.specs.Bounds.{is_between, sides_allowed, size_allowed}
use Rattle.base.specs.declared.limit.Limit.TheVariants as limits
use Rattle.base.specs.Maxima.{max_memory_bytes, max_nodes}
use Rattle.base.specs.Rooms.{first_over}
use Rattle.base.specs.declared.broken.Broken.{Broken}
use Rattle.base.proofs.Absence.{or_first, or_second, map_none, has_it, all_pass}
use Rattle.base.proofs.Rooms.{all_fit}
use Rattle.program.specs.FirstFault.{first_broken, rules_broken}
use Rattle.program.specs.Obeys.{IsSmall}
use Rattle.program.specs.Limits.{over, memory_bytes, all_bytes, rects_over, count_broken, size_broken, limit_broken}
use Rattle.program.specs.Entries.{entries_of}
use Rattle.program.specs.Rules.{shapes_of}
use Rattle.program.specs.declared.location.Location.{Location}
use Rattle.program.specs.declared.location.Location.TheVariants as at
use Rattle.program.specs.declared.program.Memory.{Memory}
use Rattle.program.specs.declared.program.Program.{Program}
use Rattle.program.specs.declared.rule.Rule.{Rule}

-- the bytes of all memories are the sum of theirs
pub bytes_sum : (memories : List Memory) → sum_by memory_bytes memories ≡ all_bytes memories
bytes_sum [] = refl
bytes_sum (memory ∷ memories) = sum_by-cons memory_bytes memory memories ∙ ap (λ n. memory_bytes memory + n) (bytes_sum memories)

-- the limits one after another
module _ (program : Program) (none : first_broken program ≡ None) where
  abbrev queues : Option (Broken Rule Location)
  queues = if is_between 1 4 (length program.queues) then None else Some (over limits.Queues at.Queues)

  abbrev memories : Option (Broken Rule Location)
  memories = if nat_le (length program.memories) 512 then None else Some (over limits.Memories at.Memories)

  abbrev pieces : Option (Broken Rule Location)
  pieces = if nat_le (length program.pieces) 512 then None else Some (over limits.Pieces at.Pieces)

  abbrev nodes : Option (Broken Rule Location)
  nodes = if nat_le (length (entries_of program)) max_nodes then None else Some (over limits.Nodes at.Whole)

  abbrev rects : Option (Broken Rule Location)
  rects = option_map (over limits.Rects) (rects_over program.queues)

  abbrev readbacks : Option (Broken Rule Location)
  readbacks = if nat_le (length program.readbacks) 32 then None else Some (over limits.Readbacks at.Readbacks)

  abbrev sides : Option (Broken Rule Location)
  sides = option_map (λ i. over limits.Side (at.Piece i)) (position (λ piece. not (sides_allowed piece.shape)) program.pieces)

  abbrev sizes : Option (Broken Rule Location)
  sizes = option_map (λ i. over limits.Size (at.Piece i)) (position (λ piece. not (size_allowed piece.shape)) program.pieces)

  abbrev bytes : Option (Broken Rule Location)
  bytes = option_map (λ i. over limits.Total (at.Memory i)) (first_over memory_bytes max_memory_bytes 0 program.memories)

  no_limit : limit_broken program ≡ None
  no_limit = or_first (limit_broken program) (rules_broken program (shapes_of program)) none

  counts : count_broken program ≡ None
  counts = or_first (count_broken program) (size_broken program) no_limit

  small : size_broken program ≡ None
  small = or_second (count_broken program) (size_broken program) no_limit

  after_queues : option_or memories (option_or pieces (option_or nodes (option_or rects readbacks))) ≡ None
  after_queues = or_second queues (option_or memories (option_or pieces (option_or nodes (option_or rects readbacks)))) counts

  after_memories : option_or pieces (option_or nodes (option_or rects readbacks)) ≡ None
  after_memories = or_second memories (option_or pieces (option_or nodes (option_or rects readbacks))) after_queues

  after_pieces : option_or nodes (option_or rects readbacks) ≡ None
  after_pieces = or_second pieces (option_or nodes (option_or rects readbacks)) after_memories

  after_nodes : option_or rects readbacks ≡ None
  after_nodes = or_second nodes (option_or rects readbacks) after_pieces

  after_sides : option_or sizes bytes ≡ None
  after_sides = or_second sides (option_or sizes bytes) small

  between : (nat_le 1 (length program.queues) ≡ true) × (nat_le (length program.queues) 4 ≡ true)
  between = and_parts (nat_le 1 (length program.queues)) (nat_le (length program.queues) 4) (has_it (is_between 1 4 (length program.queues)) (over limits.Queues at.Queues) (or_first queues (option_or memories (option_or pieces (option_or nodes (option_or rects readbacks)))) counts))

  few : length (entries_of program) ≤ max_nodes
  few = leb-true (length (entries_of program)) max_nodes (has_it (nat_le (length (entries_of program)) max_nodes) (over limits.Nodes at.Whole) (or_first nodes (option_or rects readbacks) after_pieces))

  pub is_small : IsSmall program
  is_small = record {
    some_queue = leb-true 1 (length program.queues) between.0;
    queues = leb-true (length program.queues) 4 between.1;
    memories = leb-true (length program.memories) 512 (has_it (nat_le (length program.memories) 512) (over limits.Memories at.Memories) (or_first memories (option_or pieces (option_or nodes (option_or rects readbacks))) after_queues));
    pieces = leb-true (length program.pieces) 512 (has_it (nat_le (length program.pieces) 512) (over limits.Pieces at.Pieces) (or_first pieces (option_or nodes (option_or rects readbacks)) after_memories));
    entries = few;
    readbacks = leb-true (length program.readbacks) 32 (has_it (nat_le (length program.readbacks) 32) (over limits.Readbacks at.Readbacks) (or_second rects readbacks after_nodes));
    sides = all_pass (λ piece. sides_allowed piece.shape) program.pieces (map_none (λ i. over limits.Side (at.Piece i)) (position (λ piece. not (sides_allowed piece.shape)) program.pieces) (or_first sides (option_or sizes bytes) small));
    sizes = all_pass (λ piece. size_allowed piece.shape) program.pieces (map_none (λ i. over limits.Size (at.Piece i)) (position (λ piece. not (size_allowed piece.shape)) program.pieces) (or_first sizes bytes after_sides));
    bytes =
        let fit = all_fit memory_bytes program.memories max_memory_bytes 0 (map_none (λ i. over limits.Total (at.Memory i)) (first_over memory_bytes max_memory_bytes 0 program.memories) (or_second sizes bytes after_sides)) in
        let same = bytes_sum program.memories in
        omega (arith, same, fit);
  }
