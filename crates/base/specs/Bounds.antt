-- What sides and sizes a resource may have.
use Rattle.std.specs.Prelude.{ℕ, nat_le, Bool, true, ◌&&◌}
use Rattle.base.specs.Maxima.{max_side, max_size}
use Rattle.base.specs.Shapes.{bytes_of}
use Rattle.base.specs.declared.shape.Shape.{Shape}
use Rattle.base.specs.declared.shape.Shape.TheVariants.{Buffer, Image}

abbrev pub is_between : ℕ → ℕ → ℕ → Bool
is_between least most n = nat_le least n && nat_le n most

-- each side of an image has 1 to 4,096 texels
abbrev pub sides_allowed : Shape → Bool
sides_allowed (Buffer size) = true
sides_allowed (Image width height texel) = is_between 1 max_side width && is_between 1 max_side height

-- a buffer, or one layer of an image, has 1 byte to 16 MiB
abbrev pub size_allowed : Shape → Bool
size_allowed shape = is_between 1 max_size (bytes_of shape)
