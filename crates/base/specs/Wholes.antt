-- Which operations store every byte of their destination anew, by the numbers alone: also of an operation that does not fit.
use Rattle.std.specs.Prelude.{Bool, true, ◌==◌, ◌&&◌, is_some}
use Rattle.base.specs.Shapes.{bytes_of, has_sides}
use Rattle.base.specs.declared.op.Op.{Op}
use Rattle.base.specs.declared.op.Op.TheVariants.{FillBuffer, ClearImage, CopyBuffer, CopyImage, BufferToImage, ImageToBuffer, Ramp, Map, Combine, Select, Convert, Box3, Halve, Histogram, Draw}
use Rattle.base.specs.declared.shape.Shape.{Shape}

abbrev pub is_whole : Op Shape → Bool
is_whole (FillBuffer dst offset size word) = offset == 0 && size == bytes_of dst
is_whole (ClearImage dst value) = true
is_whole (CopyBuffer src dst src_offset dst_offset size) = dst_offset == 0 && size == bytes_of dst
is_whole (CopyImage src dst src_x src_y dst_x dst_y width height) = dst_x == 0 && dst_y == 0 && has_sides width height dst
is_whole (BufferToImage src dst offset) = true
is_whole (ImageToBuffer src dst offset) = offset == 0 && bytes_of src == bytes_of dst
is_whole (Ramp dst base dx dy) = true
is_whole (Map src dst fun value) = true
is_whole (Combine a b dst fun) = true
is_whole (Select mask a b dst) = true
is_whole (Convert src dst) = true
is_whole (Box3 src dst) = true
is_whole (Halve src dst) = true
is_whole (Histogram src dst) = true
is_whole (Draw dst clear rects) = is_some clear
