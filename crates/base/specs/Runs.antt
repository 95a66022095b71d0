-- Which families of queues run an operation.
use Rattle.std.specs.Prelude.{Bool, true, false}
use Rattle.base.specs.declared.op.Op.{Op}
use Rattle.base.specs.declared.op.Op.TheVariants.{FillBuffer, ClearImage, CopyBuffer, CopyImage, BufferToImage, ImageToBuffer, Ramp, Map, Combine, Select, Convert, Box3, Halve, Histogram, Draw}
use Rattle.base.specs.declared.shape.Family.{Family}
use Rattle.base.specs.declared.shape.Family.TheVariants.{Graphics, Compute, Transfer}

abbrev pub is_graphics : Family → Bool
is_graphics Graphics = true
is_graphics Compute = false
is_graphics Transfer = false

-- a family that runs kernels
abbrev pub has_kernels : Family → Bool
has_kernels Graphics = true
has_kernels Compute = true
has_kernels Transfer = false

-- copies and fills of buffers everywhere, clears of images and kernels where there are kernels, draws on graphics
abbrev pub runs : {R : Type 0} → Op R → Family → Bool
runs (FillBuffer dst offset size word) family = true
runs (ClearImage dst value) family = has_kernels family
runs (CopyBuffer src dst src_offset dst_offset size) family = true
runs (CopyImage src dst src_x src_y dst_x dst_y width height) family = true
runs (BufferToImage src dst offset) family = true
runs (ImageToBuffer src dst offset) family = true
runs (Ramp dst base dx dy) family = has_kernels family
runs (Map src dst fun value) family = has_kernels family
runs (Combine a b dst fun) family = has_kernels family
runs (Select mask a b dst) family = has_kernels family
runs (Convert src dst) family = has_kernels family
runs (Box3 src dst) family = has_kernels family
runs (Halve src dst) family = has_kernels family
runs (Histogram src dst) family = has_kernels family
runs (Draw dst clear rects) family = is_graphics family
