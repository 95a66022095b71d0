-- What an operation works on.
use Rattle.std.specs.Prelude.{ℕ, List, [], ◌∷◌, ◌++◌, ◌==◌, length, Bool}
use Rattle.std.specs.List.{list_any}
use Rattle.base.specs.declared.op.Op.{Op}
use Rattle.base.specs.declared.op.Op.TheVariants.{FillBuffer, ClearImage, CopyBuffer, CopyImage, BufferToImage, ImageToBuffer, Ramp, Map, Combine, Select, Convert, Box3, Halve, Histogram, Draw}

-- what it reads, in the order of its fields
abbrev pub sources_of : {R : Type 0} → Op R → List R
sources_of (FillBuffer dst offset size word) = []
sources_of (ClearImage dst value) = []
sources_of (CopyBuffer src dst src_offset dst_offset size) = src ∷ []
sources_of (CopyImage src dst src_x src_y dst_x dst_y width height) = src ∷ []
sources_of (BufferToImage src dst offset) = src ∷ []
sources_of (ImageToBuffer src dst offset) = src ∷ []
sources_of (Ramp dst base dx dy) = []
sources_of (Map src dst fun value) = src ∷ []
sources_of (Combine a b dst fun) = a ∷ b ∷ []
sources_of (Select mask a b dst) = mask ∷ a ∷ b ∷ []
sources_of (Convert src dst) = src ∷ []
sources_of (Box3 src dst) = src ∷ []
sources_of (Halve src dst) = src ∷ []
sources_of (Histogram src dst) = src ∷ []
sources_of (Draw dst clear rects) = []

-- what it stores to
abbrev pub destination_of : {R : Type 0} → Op R → R
destination_of (FillBuffer dst offset size word) = dst
destination_of (ClearImage dst value) = dst
destination_of (CopyBuffer src dst src_offset dst_offset size) = dst
destination_of (CopyImage src dst src_x src_y dst_x dst_y width height) = dst
destination_of (BufferToImage src dst offset) = dst
destination_of (ImageToBuffer src dst offset) = dst
destination_of (Ramp dst base dx dy) = dst
destination_of (Map src dst fun value) = dst
destination_of (Combine a b dst fun) = dst
destination_of (Select mask a b dst) = dst
destination_of (Convert src dst) = dst
destination_of (Box3 src dst) = dst
destination_of (Halve src dst) = dst
destination_of (Histogram src dst) = dst
destination_of (Draw dst clear rects) = dst

-- the sources, and then the destination
abbrev pub operands_of : {R : Type 0} → Op R → List R
operands_of op = sources_of op ++ destination_of op ∷ []

-- whether resource n is one of them
abbrev pub touches : ℕ → Op ℕ → Bool
touches n op = list_any (λ x. x == n) (operands_of op)

-- the same operation on what f gives for each operand
abbrev pub mapped : {R S : Type 0} → (R → S) → Op R → Op S
mapped f (FillBuffer dst offset size word) = FillBuffer (f dst) offset size word
mapped f (ClearImage dst value) = ClearImage (f dst) value
mapped f (CopyBuffer src dst src_offset dst_offset size) = CopyBuffer (f src) (f dst) src_offset dst_offset size
mapped f (CopyImage src dst src_x src_y dst_x dst_y width height) = CopyImage (f src) (f dst) src_x src_y dst_x dst_y width height
mapped f (BufferToImage src dst offset) = BufferToImage (f src) (f dst) offset
mapped f (ImageToBuffer src dst offset) = ImageToBuffer (f src) (f dst) offset
mapped f (Ramp dst base dx dy) = Ramp (f dst) base dx dy
mapped f (Map src dst fun value) = Map (f src) (f dst) fun value
mapped f (Combine a b dst fun) = Combine (f a) (f b) (f dst) fun
mapped f (Select mask a b dst) = Select (f mask) (f a) (f b) (f dst)
mapped f (Convert src dst) = Convert (f src) (f dst)
mapped f (Box3 src dst) = Box3 (f src) (f dst)
mapped f (Halve src dst) = Halve (f src) (f dst)
mapped f (Histogram src dst) = Histogram (f src) (f dst)
mapped f (Draw dst clear rects) = Draw (f dst) clear rects

-- how many rectangles it draws
abbrev pub rect_count : {R : Type 0} → Op R → ℕ
rect_count (Draw dst clear rects) = length rects
rect_count op = 0
