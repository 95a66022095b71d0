-- The members of operations that name what they work on.
use Rattle.std.specs.Prelude.{ℕ, List, [], ◌∷◌, slice_index_or}
use Rattle.base.specs.declared.op.Op.{Op}
use Rattle.base.specs.declared.op.Op.TheVariants.{FillBuffer, ClearImage, CopyBuffer, CopyImage, BufferToImage, ImageToBuffer, Ramp, Map, Combine, Select, Convert, Box3, Halve, Histogram, Draw}
use Rattle.frame.specs.declared.location.Operand.{Operand}
use Rattle.frame.specs.declared.location.Operand.TheVariants.{Src, Mask, A, B, Dst}

-- the members of the sources
abbrev pub source_members : {R : Type 0} → Op R → List Operand
source_members (FillBuffer dst offset size word) = []
source_members (ClearImage dst value) = []
source_members (CopyBuffer src dst src_offset dst_offset size) = Src ∷ []
source_members (CopyImage src dst src_x src_y dst_x dst_y width height) = Src ∷ []
source_members (BufferToImage src dst offset) = Src ∷ []
source_members (ImageToBuffer src dst offset) = Src ∷ []
source_members (Ramp dst base dx dy) = []
source_members (Map src dst fun value) = Src ∷ []
source_members (Combine a b dst fun) = A ∷ B ∷ []
source_members (Select mask a b dst) = Mask ∷ A ∷ B ∷ []
source_members (Convert src dst) = Src ∷ []
source_members (Box3 src dst) = Src ∷ []
source_members (Halve src dst) = Src ∷ []
source_members (Histogram src dst) = Src ∷ []
source_members (Draw dst clear rects) = []

-- the member of operand j: after the sources the destination
abbrev pub member_at : {R : Type 0} → Op R → ℕ → Operand
member_at op j = slice_index_or (source_members op) j Dst
