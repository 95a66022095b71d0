-- What a compiled program carries of its frame: families, commands, pieces, memories and read-backs.
use Rattle.std.specs.Prelude.{◌≡◌, ℕ, suc, ◌+◌, ◌==◌, ◌&&◌, ◌<◌, List, [], ◌∷◌, ◌++◌, map, length, slice_get, true, Some, option_and_then, unwrap_or, if◌then◌else◌}
use Rattle.std.specs.List.{count_by, filter, flat_map, range_with_len}
use Rattle.base.specs.Operands.{mapped}
use Rattle.base.specs.Shapes.{shape_at, bytes_of}
use Rattle.base.specs.declared.op.Op.{Op}
use Rattle.vk.specs.declared.sharing.Sharing.TheVariants.{Exclusive}
use Rattle.compile_barriers.specs.Under.{place_of}
use Rattle.compile_groups.specs.Commands.{commands, readback_shape}
use Rattle.compile_groups.specs.Groups.{grouping, sharing_of, sharings_in}
use Rattle.compile_groups.specs.Needs.{is_touched}
use Rattle.compile_groups.specs.Placed.{is_import}
use Rattle.compile_groups.specs.declared.command.Command.{Command}
use Rattle.compile_groups.specs.declared.grouping.Grouping.{Grouping}
use Rattle.compile_heap.specs.Placing.{Places, number_at}
use Rattle.compile_record.specs.Pieces.{piece_of}
use Rattle.compile_record.specs.declared.compiled.Compiled.{Compiled}
use Rattle.frame.specs.Numbered.{NumberedFrame}
use Rattle.frame.specs.Valid.{shapes_in}
use Rattle.program.specs.Entries.{Entry, OfWait, OfItem, OfSignal, OfHost, entries_of}
use Rattle.program.specs.declared.program.Item.{Item}
use Rattle.program.specs.declared.program.Item.TheVariants as item
use Rattle.program.specs.declared.program.Memory.TheVariants.{Plain, Import}
use Rattle.program.specs.declared.program.Piece.{Piece}
use Rattle.program.specs.declared.program.Program.{Program}

-- COMMANDS

abbrev pub command_in : Item → List (Op ℕ)
command_in (item.Command op) = op ∷ []
command_in (item.Global masks) = []
command_in (item.BufferBarrier piece masks) = []
command_in (item.ImageBarrier piece layouts masks) = []
command_in (item.Release transfer) = []
command_in (item.Acquire transfer) = []

abbrev pub command_of : ℕ → Entry → List (Op ℕ)
command_of q (OfItem p it) = if p == q then command_in it else []
command_of q (OfWait p wait) = []
command_of q (OfSignal p signal) = []
command_of q (OfHost piece) = []

-- the commands among the nodes of queue q, one after another
abbrev pub commands_on : Program → ℕ → List (Op ℕ)
commands_on program q = flat_map (command_of q) (entries_of program)

-- of these commands those on queue q, over pieces for units
abbrev pub carried_on : Grouping → ℕ → List Command → List (Op ℕ)
carried_on G q all = map (λ c. mapped (piece_of G) c.op) (filter (λ c. c.queue == q) all)

-- PIECES AND MEMORIES

-- the units that a command touches, and those of them that are imports, in their order
abbrev pub touched : NumberedFrame → Grouping → List ℕ
touched frame G = filter (is_touched G) (range_with_len 0 (length frame.units))

abbrev pub touched_imports : NumberedFrame → Grouping → List ℕ
touched_imports frame G = filter (λ unit. is_touched G unit && is_import G unit) (range_with_len 0 (length frame.units))

-- memory 0 is the heap, and then come the imports
abbrev pub import_memory : Grouping → ℕ → ℕ
import_memory G unit = suc (count_by (λ u. is_touched G u && is_import G u) (range_with_len 0 unit))

abbrev pub unit_piece : NumberedFrame → Grouping → Places → ℕ → Piece
unit_piece frame G places unit = record {
  shape = shape_at (shapes_in frame) unit;
  memory = if is_import G unit then import_memory G unit else 0;
  offset = if is_import G unit then 0 else number_at places.offsets (place_of G unit);
  sharing = sharing_of (sharings_in frame) unit;
}

-- the read-backs of these units, from memory m on
abbrev pub readback_pieces : NumberedFrame → ℕ → List ℕ → List Piece
readback_pieces frame m [] = []
readback_pieces frame m (unit ∷ units) = record { shape = readback_shape frame unit; memory = m; offset = 0; sharing = Exclusive } ∷ readback_pieces frame (suc m) units

abbrev pub import_bytes : NumberedFrame → ℕ → List ℕ
import_bytes frame unit = unwrap_or (option_and_then (λ u. u.imported) (slice_get frame.units unit)) []

-- ALL OF A FRAME

pub record Carries (frame : NumberedFrame) (G : Grouping) (all : List Command) (places : Places) (program : Program) : Type 0 where
  pub families : map (λ queue. queue.family) program.queues ≡ frame.queues
  pub commands : (q : ℕ) → commands_on program q ≡ carried_on G q all
  -- units have their pieces in the order of their numbers, and then come the read-backs in the order of exports
  pub numbers : (unit : ℕ) → unit < length frame.units → is_touched G unit ≡ true → slice_get (touched frame G) (piece_of G unit) ≡ Some unit
  pub copies : (k : ℕ) → k < length frame.exports → piece_of G (length frame.units + k) ≡ length (touched frame G) + k
  pub pieces : program.pieces ≡ map (unit_piece frame G places) (touched frame G) ++ readback_pieces frame (suc (length (touched_imports frame G))) frame.exports
  pub memories : program.memories ≡ Plain places.heap ∷ map (λ unit. Import (import_bytes frame unit)) (touched_imports frame G) ++ map (λ unit. Plain (bytes_of (readback_shape frame unit))) frame.exports
  pub readbacks : program.readbacks ≡ range_with_len (length (touched frame G)) (length frame.exports)

-- of the commands of the kept passes, and the copies of exports
abbrev pub AreCarried : NumberedFrame → Compiled Program → Type 0
AreCarried frame made = Carries frame (grouping frame made.kept) (commands frame made.kept) made.placement made.program
