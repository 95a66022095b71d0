-- How an operation touches its operands.
use Rattle.std.specs.Prelude.{ℕ, List, [], ◌∷◌, ◌++◌, map, false, is_none}
use Rattle.base.specs.Operands.{sources_of, destination_of, mapped}
use Rattle.base.specs.Shapes.{shape_at}
use Rattle.base.specs.Wholes.{is_whole}
use Rattle.base.specs.declared.op.Op.{Op}
use Rattle.base.specs.declared.op.Op.TheVariants.{FillBuffer, ClearImage, CopyBuffer, CopyImage, BufferToImage, ImageToBuffer, Draw}
use Rattle.base.specs.declared.role.Role.{Role}
use Rattle.base.specs.declared.role.Role.TheVariants.{CopyRead, CopyWrite, ClearWrite, Sampled, StorageRead, StorageWrite, Attachment}
use Rattle.base.specs.declared.shape.Shape.{Shape}
use Rattle.base.specs.declared.shape.Shape.TheVariants.{Buffer, Image}
use Rattle.base.specs.declared.touch.Touch.{Touch}

-- as what a kernel reads a resource
abbrev pub kernel_role : Shape → Role
kernel_role (Buffer size) = StorageRead
kernel_role (Image width height texel) = Sampled

-- as what an operation reads a source of this shape
abbrev pub source_role : {R : Type 0} → Op R → Shape → Role
source_role (CopyBuffer src dst src_offset dst_offset size) shape = CopyRead
source_role (CopyImage src dst src_x src_y dst_x dst_y width height) shape = CopyRead
source_role (BufferToImage src dst offset) shape = CopyRead
source_role (ImageToBuffer src dst offset) shape = CopyRead
source_role op shape = kernel_role shape

-- as what it stores to its destination; a draw that does not clear loads first
abbrev pub destination_role : {R : Type 0} → Op R → Role
destination_role (FillBuffer dst offset size word) = ClearWrite
destination_role (ClearImage dst value) = ClearWrite
destination_role (CopyBuffer src dst src_offset dst_offset size) = CopyWrite
destination_role (CopyImage src dst src_x src_y dst_x dst_y width height) = CopyWrite
destination_role (BufferToImage src dst offset) = CopyWrite
destination_role (ImageToBuffer src dst offset) = CopyWrite
destination_role (Draw dst clear rects) = Attachment (is_none clear)
destination_role op = StorageWrite

abbrev pub source_touch : List Shape → Op ℕ → ℕ → Touch
source_touch shapes op n = record { what = n; role = source_role op (shape_at shapes n); whole = false }

abbrev pub destination_touch : List Shape → Op ℕ → Touch
destination_touch shapes op = record { what = destination_of op; role = destination_role op; whole = is_whole (mapped (shape_at shapes) op) }

-- one for each operand, in their order
abbrev pub touches_of : List Shape → Op ℕ → List Touch
touches_of shapes op = map (source_touch shapes op) (sources_of op) ++ destination_touch shapes op ∷ []
