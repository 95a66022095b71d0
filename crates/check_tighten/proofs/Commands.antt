-- Commands are in a single stage, which their queue's family has.
use Rattle.std.proofs.Common.{◌≡◌, ℕ, true, slice_get, Some, refl}
use Rattle.base.specs.Runs.{runs, has_kernels}
use Rattle.base.specs.declared.op.Op.{Op}
use Rattle.base.specs.declared.op.Op.TheVariants.{FillBuffer, ClearImage, CopyBuffer, CopyImage, BufferToImage, ImageToBuffer, Ramp, Map, Combine, Select, Convert, Box3, Halve, Histogram, Draw}
use Rattle.base.specs.declared.shape.Family.{Family}
use Rattle.base.specs.declared.shape.Family.TheVariants.{Graphics, Compute, Transfer}
use Rattle.vk.specs.Families.{family_number, on_family}
use Rattle.vk.specs.Roles.{op_stage}
use Rattle.vk.specs.Stages.{copy, clear, compute_shader}
use Rattle.check_tighten.specs.Own.{single_stages}

pub op_single : (op : Op ℕ) → (i : ℕ) × (slice_get single_stages i ≡ Some (op_stage op))
op_single (FillBuffer dst offset size word) = (4, refl)
op_single (ClearImage dst value) = (4, refl)
op_single (CopyBuffer src dst src_offset dst_offset size) = (3, refl)
op_single (CopyImage src dst src_x src_y dst_x dst_y width height) = (3, refl)
op_single (BufferToImage src dst offset) = (3, refl)
op_single (ImageToBuffer src dst offset) = (3, refl)
op_single (Draw dst clears rects) = (0, refl)
op_single (Ramp dst base dx dy) = (1, refl)
op_single (Map src dst fun value) = (1, refl)
op_single (Combine a b dst fun) = (1, refl)
op_single (Select mask a b dst) = (1, refl)
op_single (Convert src dst) = (1, refl)
op_single (Box3 src dst) = (1, refl)
op_single (Halve src dst) = (1, refl)
op_single (Histogram src dst) = (1, refl)

copies : (family : Family) → on_family copy (family_number family) ≡ true
copies Graphics = refl
copies Compute = refl
copies Transfer = refl

clears : (family : Family) → on_family clear (family_number family) ≡ true
clears Graphics = refl
clears Compute = refl
clears Transfer = refl

shades : (family : Family) → has_kernels family ≡ true → on_family compute_shader (family_number family) ≡ true
shades Graphics h = refl
shades Compute h = refl
shades Transfer h = absurd cc

draws : (family : Family) (dst : ℕ) (clear : _) (rects : _) → runs (Draw dst clear rects) family ≡ true → on_family (op_stage (Draw dst clear rects)) (family_number family) ≡ true
draws Graphics dst clear rects h = refl
draws Compute dst clear rects h = absurd cc
draws Transfer dst clear rects h = absurd cc

pub op_on : (family : Family) (op : Op ℕ) → runs op family ≡ true → on_family (op_stage op) (family_number family) ≡ true
op_on family (FillBuffer dst offset size word) h = clears family
op_on family (ClearImage dst value) h = clears family
op_on family (CopyBuffer src dst src_offset dst_offset size) h = copies family
op_on family (CopyImage src dst src_x src_y dst_x dst_y width height) h = copies family
op_on family (BufferToImage src dst offset) h = copies family
op_on family (ImageToBuffer src dst offset) h = copies family
op_on family (Draw dst clears rects) h = draws family dst clears rects h
op_on family (Ramp dst base dx dy) h = shades family h
op_on family (Map src dst fun value) h = shades family h
op_on family (Combine a b dst fun) h = shades family h
op_on family (Select mask a b dst) h = shades family h
op_on family (Convert src dst) h = shades family h
op_on family (Box3 src dst) h = shades family h
op_on family (Halve src dst) h = shades family h
op_on family (Histogram src dst) h = shades family h
