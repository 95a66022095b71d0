-- Pieces are in their memories, and what is submitted fits the pieces. A sentence that needs an unknown number is not applied.
use Rattle.std.specs.Prelude.{ℕ, List, ◌+◌, ◌%◌, ◌==◌, ◌&&◌, nat_le, nat_lt, length, not, Bool, true, slice_get, Option, Some, None, if◌then◌else◌}
use Rattle.std.specs.List.{list_all}
use Rattle.std.specs.Option.{option_map_or}
use Rattle.base.specs.Fits.{fits}
use Rattle.base.specs.InPlace.{in_place}
use Rattle.base.specs.Operands.{operands_of, mapped}
use Rattle.base.specs.Shapes.{bytes_of, is_buffer, is_image, shape_at}
use Rattle.base.specs.declared.op.Op.{Op}
use Rattle.base.specs.declared.shape.Family.{Family}
use Rattle.base.specs.declared.shape.Shape.{Shape}
use Rattle.vk.specs.Families.{family_number}
use Rattle.vk.specs.Layouts.{is_undefined}
use Rattle.vk.specs.declared.layout.Layouts.{Layouts}
use Rattle.program.specs.Limits.{memory_bytes}
use Rattle.program.specs.declared.program.Item.{Item}
use Rattle.program.specs.declared.program.Item.TheVariants.{Command, Global, BufferBarrier, ImageBarrier, Release, Acquire}
use Rattle.program.specs.declared.program.Memory.{Memory}
use Rattle.program.specs.declared.program.Piece.{Piece}
use Rattle.program.specs.declared.program.Transfer as transfers

-- at a multiple of 256, and inside the memory
abbrev pub lies_in : Piece → Memory → Bool
lies_in piece memory = piece.offset % 256 == 0 && nat_le (piece.offset + bytes_of piece.shape) (memory_bytes memory)

abbrev pub piece_in_range : List Memory → Piece → Bool
piece_in_range memories piece = option_map_or (lies_in piece) (slice_get memories piece.memory) true

-- the piece of this number is so, if there is one
abbrev pub is_so : (Shape → Bool) → List Shape → ℕ → Bool
is_so test shapes number = option_map_or test (slice_get shapes number) true

abbrev pub has_operands : List Shape → Op ℕ → Bool
has_operands shapes op = list_all (λ number. nat_lt number (length shapes)) (operands_of op)

-- the operation fits its pieces and does not read what it stores to
abbrev pub op_in_range : List Shape → Op ℕ → Bool
op_in_range shapes op = if has_operands shapes op then fits (mapped (shape_at shapes) op) && not (in_place op) else true

-- both layouts are known ones
abbrev pub layouts_defined : Option Layouts → Bool
layouts_defined None = true
layouts_defined (Some layouts) = not (is_undefined layouts.from) && not (is_undefined layouts.to)

-- layouts exactly for an image
abbrev pub layouts_stand : Option Layouts → Shape → Bool
layouts_stand None shape = is_buffer shape
layouts_stand (Some layouts) shape = is_image shape

-- own is the family that the half of the transfer has to be on
abbrev pub transfer_in_range : List Shape → Family → Family → transfers.Transfer → Bool
transfer_in_range shapes family own t =
    is_so (layouts_stand t.layouts) shapes t.piece
    && not (family_number t.from_family == family_number t.to_family)
    && family_number own == family_number family
    && layouts_defined t.layouts

abbrev pub item_in_range : List Shape → Family → Item → Bool
item_in_range shapes family (Command op) = op_in_range shapes op
item_in_range shapes family (Global masks) = true
item_in_range shapes family (BufferBarrier piece masks) = is_so is_buffer shapes piece
item_in_range shapes family (ImageBarrier piece layouts masks) = is_so is_image shapes piece && not (is_undefined layouts.to)
item_in_range shapes family (Release t) = transfer_in_range shapes family t.from_family t
item_in_range shapes family (Acquire t) = transfer_in_range shapes family t.to_family t
