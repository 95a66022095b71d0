-- The same operation over other operands.
use Rattle.std.proofs.Common.{◌≡◌, ℕ, List, ◌≤◌, ◌++◌, [], ◌∷◌, length, map, refl, sym, ap, ap₂, ◌∙◌, arith}
use Rattle.std.specs.List.{All}
use Rattle.std.proofs.lemmas.List.{map-append}
use Rattle.base.specs.Operands.{sources_of, destination_of, operands_of, mapped, rect_count}
use Rattle.base.specs.Runs.{runs}
use Rattle.base.specs.Shapes.{bytes_of, shape_at}
use Rattle.base.specs.Touches.{source_role, destination_role}
use Rattle.base.specs.declared.op.Op.{Op}
use Rattle.base.specs.declared.op.Op.TheVariants.{FillBuffer, ClearImage, CopyBuffer, CopyImage, BufferToImage, ImageToBuffer, Ramp, Map, Combine, Select, Convert, Box3, Halve, Histogram, Draw}
use Rattle.base.specs.declared.shape.Family.{Family}
use Rattle.base.specs.declared.shape.Shape.{Shape}

pub sources_mapped : {R S : Type 0} (f : R → S) (op : Op R) → sources_of (mapped f op) ≡ map f (sources_of op)
sources_mapped f (FillBuffer dst offset size word) = refl
sources_mapped f (ClearImage dst value) = refl
sources_mapped f (CopyBuffer src dst src_offset dst_offset size) = refl
sources_mapped f (CopyImage src dst src_x src_y dst_x dst_y width height) = refl
sources_mapped f (BufferToImage src dst offset) = refl
sources_mapped f (ImageToBuffer src dst offset) = refl
sources_mapped f (Ramp dst base dx dy) = refl
sources_mapped f (Map src dst fun value) = refl
sources_mapped f (Combine a b dst fun) = refl
sources_mapped f (Select mask a b dst) = refl
sources_mapped f (Convert src dst) = refl
sources_mapped f (Box3 src dst) = refl
sources_mapped f (Halve src dst) = refl
sources_mapped f (Histogram src dst) = refl
sources_mapped f (Draw dst clear rects) = refl

pub destination_mapped : {R S : Type 0} (f : R → S) (op : Op R) → destination_of (mapped f op) ≡ f (destination_of op)
destination_mapped f (FillBuffer dst offset size word) = refl
destination_mapped f (ClearImage dst value) = refl
destination_mapped f (CopyBuffer src dst src_offset dst_offset size) = refl
destination_mapped f (CopyImage src dst src_x src_y dst_x dst_y width height) = refl
destination_mapped f (BufferToImage src dst offset) = refl
destination_mapped f (ImageToBuffer src dst offset) = refl
destination_mapped f (Ramp dst base dx dy) = refl
destination_mapped f (Map src dst fun value) = refl
destination_mapped f (Combine a b dst fun) = refl
destination_mapped f (Select mask a b dst) = refl
destination_mapped f (Convert src dst) = refl
destination_mapped f (Box3 src dst) = refl
destination_mapped f (Halve src dst) = refl
destination_mapped f (Histogram src dst) = refl
destination_mapped f (Draw dst clear rects) = refl

pub operands_mapped : {R S : Type 0} (f : R → S) (op : Op R) → operands_of (mapped f op) ≡ map f (operands_of op)
operands_mapped f op = ap₂ (λ sources dst. sources ++ dst ∷ []) (sources_mapped f op) (destination_mapped f op) ∙ sym (map-append f (sources_of op) (destination_of op ∷ []))

pub mapped_twice : {R S T : Type 0} (g : S → T) (f : R → S) (op : Op R) → mapped g (mapped f op) ≡ mapped (λ r. g (f r)) op
mapped_twice g f (FillBuffer dst offset size word) = refl
mapped_twice g f (ClearImage dst value) = refl
mapped_twice g f (CopyBuffer src dst src_offset dst_offset size) = refl
mapped_twice g f (CopyImage src dst src_x src_y dst_x dst_y width height) = refl
mapped_twice g f (BufferToImage src dst offset) = refl
mapped_twice g f (ImageToBuffer src dst offset) = refl
mapped_twice g f (Ramp dst base dx dy) = refl
mapped_twice g f (Map src dst fun value) = refl
mapped_twice g f (Combine a b dst fun) = refl
mapped_twice g f (Select mask a b dst) = refl
mapped_twice g f (Convert src dst) = refl
mapped_twice g f (Box3 src dst) = refl
mapped_twice g f (Halve src dst) = refl
mapped_twice g f (Histogram src dst) = refl
mapped_twice g f (Draw dst clear rects) = refl

-- only what is given for the operands counts
pub mapped_same : {R S : Type 0} (f g : R → S) (op : Op R) → All (λ r. f r ≡ g r) (operands_of op) → mapped f op ≡ mapped g op
mapped_same f g (FillBuffer dst offset size word) h = ap (λ x. FillBuffer x offset size word) (h 0 dst (omega arith))
mapped_same f g (ClearImage dst value) h = ap (λ x. ClearImage x value) (h 0 dst (omega arith))
mapped_same f g (CopyBuffer src dst src_offset dst_offset size) h = ap₂ (λ x y. CopyBuffer x y src_offset dst_offset size) (h 0 src (omega arith)) (h 1 dst (omega arith))
mapped_same f g (CopyImage src dst src_x src_y dst_x dst_y width height) h = ap₂ (λ x y. CopyImage x y src_x src_y dst_x dst_y width height) (h 0 src (omega arith)) (h 1 dst (omega arith))
mapped_same f g (BufferToImage src dst offset) h = ap₂ (λ x y. BufferToImage x y offset) (h 0 src (omega arith)) (h 1 dst (omega arith))
mapped_same f g (ImageToBuffer src dst offset) h = ap₂ (λ x y. ImageToBuffer x y offset) (h 0 src (omega arith)) (h 1 dst (omega arith))
mapped_same f g (Ramp dst base dx dy) h = ap (λ x. Ramp x base dx dy) (h 0 dst (omega arith))
mapped_same f g (Map src dst fun value) h = ap₂ (λ x y. Map x y fun value) (h 0 src (omega arith)) (h 1 dst (omega arith))
mapped_same f g (Combine a b dst fun) h = ap₂ (λ x y. Combine x y (f dst) fun) (h 0 a (omega arith)) (h 1 b (omega arith)) ∙ ap (λ z. Combine (g a) (g b) z fun) (h 2 dst (omega arith))
mapped_same f g (Select mask a b dst) h = ap₂ (λ x y. Select x y (f b) (f dst)) (h 0 mask (omega arith)) (h 1 a (omega arith)) ∙ ap₂ (λ x y. Select (g mask) (g a) x y) (h 2 b (omega arith)) (h 3 dst (omega arith))
mapped_same f g (Convert src dst) h = ap₂ (λ x y. Convert x y) (h 0 src (omega arith)) (h 1 dst (omega arith))
mapped_same f g (Box3 src dst) h = ap₂ (λ x y. Box3 x y) (h 0 src (omega arith)) (h 1 dst (omega arith))
mapped_same f g (Halve src dst) h = ap₂ (λ x y. Halve x y) (h 0 src (omega arith)) (h 1 dst (omega arith))
mapped_same f g (Histogram src dst) h = ap₂ (λ x y. Histogram x y) (h 0 src (omega arith)) (h 1 dst (omega arith))
mapped_same f g (Draw dst clear rects) h = ap (λ x. Draw x clear rects) (h 0 dst (omega arith))

pub source_role_mapped : {R S : Type 0} (f : R → S) (op : Op R) (shape : Shape) → source_role (mapped f op) shape ≡ source_role op shape
source_role_mapped f (FillBuffer dst offset size word) shape = refl
source_role_mapped f (ClearImage dst value) shape = refl
source_role_mapped f (CopyBuffer src dst src_offset dst_offset size) shape = refl
source_role_mapped f (CopyImage src dst src_x src_y dst_x dst_y width height) shape = refl
source_role_mapped f (BufferToImage src dst offset) shape = refl
source_role_mapped f (ImageToBuffer src dst offset) shape = refl
source_role_mapped f (Ramp dst base dx dy) shape = refl
source_role_mapped f (Map src dst fun value) shape = refl
source_role_mapped f (Combine a b dst fun) shape = refl
source_role_mapped f (Select mask a b dst) shape = refl
source_role_mapped f (Convert src dst) shape = refl
source_role_mapped f (Box3 src dst) shape = refl
source_role_mapped f (Halve src dst) shape = refl
source_role_mapped f (Histogram src dst) shape = refl
source_role_mapped f (Draw dst clear rects) shape = refl

pub destination_role_mapped : {R S : Type 0} (f : R → S) (op : Op R) → destination_role (mapped f op) ≡ destination_role op
destination_role_mapped f (FillBuffer dst offset size word) = refl
destination_role_mapped f (ClearImage dst value) = refl
destination_role_mapped f (CopyBuffer src dst src_offset dst_offset size) = refl
destination_role_mapped f (CopyImage src dst src_x src_y dst_x dst_y width height) = refl
destination_role_mapped f (BufferToImage src dst offset) = refl
destination_role_mapped f (ImageToBuffer src dst offset) = refl
destination_role_mapped f (Ramp dst base dx dy) = refl
destination_role_mapped f (Map src dst fun value) = refl
destination_role_mapped f (Combine a b dst fun) = refl
destination_role_mapped f (Select mask a b dst) = refl
destination_role_mapped f (Convert src dst) = refl
destination_role_mapped f (Box3 src dst) = refl
destination_role_mapped f (Halve src dst) = refl
destination_role_mapped f (Histogram src dst) = refl
destination_role_mapped f (Draw dst clear rects) = refl

pub rects_mapped : {R S : Type 0} (f : R → S) (op : Op R) → rect_count (mapped f op) ≡ rect_count op
rects_mapped f (FillBuffer dst offset size word) = refl
rects_mapped f (ClearImage dst value) = refl
rects_mapped f (CopyBuffer src dst src_offset dst_offset size) = refl
rects_mapped f (CopyImage src dst src_x src_y dst_x dst_y width height) = refl
rects_mapped f (BufferToImage src dst offset) = refl
rects_mapped f (ImageToBuffer src dst offset) = refl
rects_mapped f (Ramp dst base dx dy) = refl
rects_mapped f (Map src dst fun value) = refl
rects_mapped f (Combine a b dst fun) = refl
rects_mapped f (Select mask a b dst) = refl
rects_mapped f (Convert src dst) = refl
rects_mapped f (Box3 src dst) = refl
rects_mapped f (Halve src dst) = refl
rects_mapped f (Histogram src dst) = refl
rects_mapped f (Draw dst clear rects) = refl

pub runs_mapped : {R S : Type 0} (f : R → S) (family : Family) (op : Op R) → runs (mapped f op) family ≡ runs op family
runs_mapped f family (FillBuffer dst offset size word) = refl
runs_mapped f family (ClearImage dst value) = refl
runs_mapped f family (CopyBuffer src dst src_offset dst_offset size) = refl
runs_mapped f family (CopyImage src dst src_x src_y dst_x dst_y width height) = refl
runs_mapped f family (BufferToImage src dst offset) = refl
runs_mapped f family (ImageToBuffer src dst offset) = refl
runs_mapped f family (Ramp dst base dx dy) = refl
runs_mapped f family (Map src dst fun value) = refl
runs_mapped f family (Combine a b dst fun) = refl
runs_mapped f family (Select mask a b dst) = refl
runs_mapped f family (Convert src dst) = refl
runs_mapped f family (Box3 src dst) = refl
runs_mapped f family (Halve src dst) = refl
runs_mapped f family (Histogram src dst) = refl
runs_mapped f family (Draw dst clear rects) = refl

pub sources_few : {R : Type 0} (op : Op R) → length (sources_of op) ≤ 3
sources_few (FillBuffer dst offset size word) = omega arith
sources_few (ClearImage dst value) = omega arith
sources_few (CopyBuffer src dst src_offset dst_offset size) = omega arith
sources_few (CopyImage src dst src_x src_y dst_x dst_y width height) = omega arith
sources_few (BufferToImage src dst offset) = omega arith
sources_few (ImageToBuffer src dst offset) = omega arith
sources_few (Ramp dst base dx dy) = omega arith
sources_few (Map src dst fun value) = omega arith
sources_few (Combine a b dst fun) = omega arith
sources_few (Select mask a b dst) = omega arith
sources_few (Convert src dst) = omega arith
sources_few (Box3 src dst) = omega arith
sources_few (Halve src dst) = omega arith
sources_few (Histogram src dst) = omega arith
sources_few (Draw dst clear rects) = omega arith

pub destination_long : (shapes : List Shape) (op : Op ℕ) (n : ℕ) → n ≡ bytes_of (shape_at shapes (destination_of op)) → n ≡ bytes_of (destination_of (mapped (shape_at shapes) op))
destination_long shapes op n is = is ∙ ap bytes_of (sym (destination_mapped (shape_at shapes) op))
