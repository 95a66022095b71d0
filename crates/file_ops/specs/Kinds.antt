-- Which operation it is: the words of the kinds, and the members of each.
use Rattle.std.specs.Prelude.{◌≡◌, refl, ℕ, Bool, List, [], ◌∷◌, Option, Some, codes, ⊤}
use Rattle.std.specs.List.{find, list_any}
use Rattle.std.specs.Str.{bytes_eq}
use Rattle.base.specs.declared.op.Op.{Op}
use Rattle.base.specs.declared.op.Op.TheVariants as op
use Rattle.file_ops.specs.declared.kind.Kind.{Kind}
use Rattle.file_ops.specs.declared.kind.Kind.TheVariants as kinds

abbrev pub kind_text : Kind → List ℕ
kind_text kinds.FillBuffer = codes "fill_buffer"
kind_text kinds.ClearImage = codes "clear_image"
kind_text kinds.CopyBuffer = codes "copy_buffer"
kind_text kinds.CopyImage = codes "copy_image"
kind_text kinds.BufferToImage = codes "buffer_to_image"
kind_text kinds.ImageToBuffer = codes "image_to_buffer"
kind_text kinds.Ramp = codes "ramp"
kind_text kinds.Map = codes "map"
kind_text kinds.Combine = codes "combine"
kind_text kinds.Select = codes "select"
kind_text kinds.Convert = codes "convert"
kind_text kinds.Box3 = codes "box3"
kind_text kinds.Halve = codes "halve"
kind_text kinds.Histogram = codes "histogram"
kind_text kinds.Draw = codes "draw"

abbrev pub all_kinds : List Kind
all_kinds = kinds.FillBuffer ∷ kinds.ClearImage ∷ kinds.CopyBuffer ∷ kinds.CopyImage ∷ kinds.BufferToImage ∷ kinds.ImageToBuffer ∷ kinds.Ramp ∷ kinds.Map ∷ kinds.Combine ∷ kinds.Select ∷ kinds.Convert ∷ kinds.Box3 ∷ kinds.Halve ∷ kinds.Histogram ∷ kinds.Draw ∷ []

-- the kind with this word
abbrev pub kind_of : List ℕ → Option Kind
kind_of s = find (λ kind. bytes_eq s (kind_text kind)) all_kinds

pub kind_again : (k : Kind) → ⊤ → kind_of (kind_text k) ≡ Some k
kind_again kinds.FillBuffer fits = refl
kind_again kinds.ClearImage fits = refl
kind_again kinds.CopyBuffer fits = refl
kind_again kinds.CopyImage fits = refl
kind_again kinds.BufferToImage fits = refl
kind_again kinds.ImageToBuffer fits = refl
kind_again kinds.Ramp fits = refl
kind_again kinds.Map fits = refl
kind_again kinds.Combine fits = refl
kind_again kinds.Select fits = refl
kind_again kinds.Convert fits = refl
kind_again kinds.Box3 fits = refl
kind_again kinds.Halve fits = refl
kind_again kinds.Histogram fits = refl
kind_again kinds.Draw fits = refl

abbrev pub is_in : List (List ℕ) → List ℕ → Bool
is_in names text = list_any (λ name. bytes_eq name text) names

-- the members that an operation of a kind may have, in the order of examination
abbrev pub members_of : Kind → List (List ℕ)
members_of kinds.FillBuffer = codes "op" ∷ codes "dst" ∷ codes "offset" ∷ codes "size" ∷ codes "word" ∷ []
members_of kinds.ClearImage = codes "op" ∷ codes "dst" ∷ codes "value" ∷ []
members_of kinds.CopyBuffer = codes "op" ∷ codes "src" ∷ codes "dst" ∷ codes "src_offset" ∷ codes "dst_offset" ∷ codes "size" ∷ []
members_of kinds.CopyImage = codes "op" ∷ codes "src" ∷ codes "dst" ∷ codes "src_x" ∷ codes "src_y" ∷ codes "dst_x" ∷ codes "dst_y" ∷ codes "width" ∷ codes "height" ∷ []
members_of kinds.BufferToImage = codes "op" ∷ codes "src" ∷ codes "dst" ∷ codes "offset" ∷ []
members_of kinds.ImageToBuffer = codes "op" ∷ codes "src" ∷ codes "dst" ∷ codes "offset" ∷ []
members_of kinds.Ramp = codes "op" ∷ codes "dst" ∷ codes "base" ∷ codes "dx" ∷ codes "dy" ∷ []
members_of kinds.Map = codes "op" ∷ codes "src" ∷ codes "dst" ∷ codes "fun" ∷ codes "value" ∷ []
members_of kinds.Combine = codes "op" ∷ codes "a" ∷ codes "b" ∷ codes "dst" ∷ codes "fun" ∷ []
members_of kinds.Select = codes "op" ∷ codes "mask" ∷ codes "a" ∷ codes "b" ∷ codes "dst" ∷ []
members_of kinds.Convert = codes "op" ∷ codes "src" ∷ codes "dst" ∷ []
members_of kinds.Box3 = codes "op" ∷ codes "src" ∷ codes "dst" ∷ []
members_of kinds.Halve = codes "op" ∷ codes "src" ∷ codes "dst" ∷ []
members_of kinds.Histogram = codes "op" ∷ codes "src" ∷ codes "dst" ∷ []
members_of kinds.Draw = codes "op" ∷ codes "dst" ∷ codes "clear" ∷ codes "rects" ∷ []

abbrev pub op_kind : {R : Type 0} → Op R → Kind
op_kind (op.FillBuffer dst offset size word) = kinds.FillBuffer
op_kind (op.ClearImage dst value) = kinds.ClearImage
op_kind (op.CopyBuffer src dst src_offset dst_offset size) = kinds.CopyBuffer
op_kind (op.CopyImage src dst src_x src_y dst_x dst_y width height) = kinds.CopyImage
op_kind (op.BufferToImage src dst offset) = kinds.BufferToImage
op_kind (op.ImageToBuffer src dst offset) = kinds.ImageToBuffer
op_kind (op.Ramp dst base dx dy) = kinds.Ramp
op_kind (op.Map src dst fun value) = kinds.Map
op_kind (op.Combine a b dst fun) = kinds.Combine
op_kind (op.Select mask a b dst) = kinds.Select
op_kind (op.Convert src dst) = kinds.Convert
op_kind (op.Box3 src dst) = kinds.Box3
op_kind (op.Halve src dst) = kinds.Halve
op_kind (op.Histogram src dst) = kinds.Histogram
op_kind (op.Draw dst clear rects) = kinds.Draw
