-- Which shapes an operation can work on. That its source and destination differ is no part of this.
use Rattle.std.specs.Prelude.{ℕ, Bool, ◌%◌, ◌==◌, ◌&&◌, nat_le, is_some}
use Rattle.std.specs.List.{list_all}
use Rattle.base.specs.Shapes.{bytes_of, is_buffer, is_image, has_texel, grid_of, same_grid, same_texel, same_sides, twice_the_sides, has_bytes, has_rect}
use Rattle.base.specs.declared.op.Op.{Op}
use Rattle.base.specs.declared.op.Op.TheVariants.{FillBuffer, ClearImage, CopyBuffer, CopyImage, BufferToImage, ImageToBuffer, Ramp, Map, Combine, Select, Convert, Box3, Halve, Histogram, Draw}
use Rattle.base.specs.declared.op.Rect.{Rect}
use Rattle.base.specs.declared.shape.Shape.{Shape}
use Rattle.base.specs.declared.shape.Texel.TheVariants.{R8}

-- a multiple of four
abbrev pub is_aligned : ℕ → Bool
is_aligned n = n % 4 == 0

abbrev pub has_drawn : Shape → Rect → Bool
has_drawn shape rect = has_rect shape rect.x rect.y rect.width rect.height

abbrev pub fits : Op Shape → Bool
fits (FillBuffer dst offset size word) = is_aligned offset && is_aligned size && nat_le 4 size && has_bytes dst offset size
fits (ClearImage dst value) = is_image dst
fits (CopyBuffer src dst src_offset dst_offset size) = nat_le 1 size && has_bytes src src_offset size && has_bytes dst dst_offset size
fits (CopyImage src dst src_x src_y dst_x dst_y width height) = same_texel src dst && has_rect src src_x src_y width height && has_rect dst dst_x dst_y width height
fits (BufferToImage src dst offset) = is_image dst && is_aligned offset && has_bytes src offset (bytes_of dst)
fits (ImageToBuffer src dst offset) = is_image src && is_aligned offset && has_bytes dst offset (bytes_of src)
fits (Ramp dst base dx dy) = is_some (grid_of dst)
fits (Map src dst fun value) = same_grid src dst
fits (Combine a b dst fun) = same_grid a dst && same_grid b dst
fits (Select mask a b dst) = same_grid mask dst && same_grid a dst && same_grid b dst
fits (Convert src dst) = same_sides src dst
fits (Box3 src dst) = is_image src && is_image dst && same_grid src dst
fits (Halve src dst) = same_texel src dst && twice_the_sides src dst
fits (Histogram src dst) = has_texel R8 src && is_buffer dst && bytes_of dst == 1024
fits (Draw dst clear rects) = is_image dst && list_all (has_drawn dst) rects
