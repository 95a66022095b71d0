-- What a program comes to where its commands run one after another and each piece has bytes of its own.
use Rattle.std.specs.Prelude.{ℕ, List, [], ◌∷◌, ◌+◌, map, replicate, slice_get, Option, Some, None, option_and_then, if◌then◌else◌}
use Rattle.std.specs.List.{slice_range}
use Rattle.std.specs.Option.{option_map, option_map_or}
use Rattle.base.specs.Applied.{bytes_at, after_op}
use Rattle.base.specs.Operands.{destination_of}
use Rattle.base.specs.Shapes.{bytes_of, is_buffer}
use Rattle.base.specs.declared.op.Op.{Op}
use Rattle.check_order.specs.Orders.{before_in}
use Rattle.program.specs.Entries.{Entry, OfWait, OfItem, OfSignal, OfHost, entries_of}
use Rattle.program.specs.Rules.{shapes_of}
use Rattle.program.specs.declared.program.Item.{Item}
use Rattle.program.specs.declared.program.Item.TheVariants.{Command, Global, BufferBarrier, ImageBarrier, Release, Acquire}
use Rattle.program.specs.declared.program.Memory.{Memory}
use Rattle.program.specs.declared.program.Memory.TheVariants.{Plain, Import}
use Rattle.program.specs.declared.program.Piece.{Piece}
use Rattle.program.specs.declared.program.Program.{Program}
use Rattle.check_access.specs.Views.{view_of, loads_of}

-- COMMANDS

abbrev pub op_of : Item → Option (Op ℕ)
op_of (Command op) = Some op
op_of (Global masks) = None
op_of (BufferBarrier piece masks) = None
op_of (ImageBarrier piece layouts masks) = None
op_of (Release t) = None
op_of (Acquire t) = None

-- the operation of a node, if it is a command's
abbrev pub op_in : Entry → Option (Op ℕ)
op_in (OfWait q wait) = None
op_in (OfItem q item) = op_of item
op_in (OfSignal q signal) = None
op_in (OfHost piece) = None

abbrev pub op_at : Program → ℕ → Option (Op ℕ)
op_at program n = option_and_then op_in (slice_get (entries_of program) n)

-- BYTES OF ALL PIECES

abbrev pub zeros : Piece → List ℕ
zeros piece = replicate (bytes_of piece.shape) 0

abbrev pub begins_in : Piece → Memory → List ℕ
begins_in piece (Plain size) = zeros piece
begins_in piece (Import bytes) = slice_range bytes piece.offset (piece.offset + bytes_of piece.shape)

-- what a piece holds before the first node: an import's buffer the bytes of the import, any other zeros
abbrev pub first_bytes : List Memory → Piece → List ℕ
first_bytes memories piece = if is_buffer piece.shape then option_map_or (begins_in piece) (slice_get memories piece.memory) (zeros piece) else zeros piece

-- barriers, transitions and discards do nothing
abbrev pub after_node : Program → List (List ℕ) → ℕ → List (List ℕ)
after_node program bytes n = option_map_or (after_op (shapes_of program) bytes) (op_at program n) bytes

abbrev pub after_nodes : Program → List (List ℕ) → List ℕ → List (List ℕ)
after_nodes program bytes [] = bytes
after_nodes program bytes (n ∷ order) = after_nodes program (after_node program bytes n) order

-- after the nodes of an order
abbrev pub apart : Program → List ℕ → List (List ℕ)
apart program order = after_nodes program (map (first_bytes program.memories) program.pieces) order

-- WHAT NODES LOAD AND STORE

-- what the pieces hold right before node n
abbrev pub bytes_before : Program → List ℕ → ℕ → List (List ℕ)
bytes_before program order n = apart program (before_in order n)

-- the bytes that node n loads, load by load
abbrev pub inputs : Program → List ℕ → ℕ → List (List ℕ)
inputs program order n = map (λ a. bytes_at (bytes_before program order n) a.piece) (loads_of (view_of program) n)

-- the bytes that command n stores
abbrev pub output : Program → List ℕ → ℕ → Option (List ℕ)
output program order n = option_map (λ op. bytes_at (after_node program (bytes_before program order n) n) (destination_of op)) (op_at program n)

-- the bytes of the piece of read-back k at the end
abbrev pub host_bytes : Program → List ℕ → ℕ → Option (List ℕ)
host_bytes program order k = option_map (bytes_at (apart program order)) (slice_get program.readbacks k)
