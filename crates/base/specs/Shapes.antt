-- Bytes and texels of resources.
use Rattle.std.specs.Prelude.{ℕ, List, Bool, true, false, ◌*◌, ◌/◌, ◌%◌, ◌+◌, ◌==◌, ◌&&◌, nat_le, slice_index_or, Option, Some, None, if◌then◌else◌}
use Rattle.base.specs.declared.grid.Grid.{Grid}
use Rattle.base.specs.declared.shape.Shape.{Shape}
use Rattle.base.specs.declared.shape.Shape.TheVariants.{Buffer, Image}
use Rattle.base.specs.declared.shape.Texel.{Texel}
use Rattle.base.specs.declared.shape.Texel.TheVariants.{R8, R32}

-- the shape with this number; an empty buffer where there is none
abbrev pub shape_at : List Shape → ℕ → Shape
shape_at shapes n = slice_index_or shapes n (Buffer 0)

abbrev pub texel_bytes : Texel → ℕ
texel_bytes R8 = 1
texel_bytes R32 = 4

abbrev pub texel_eq : Texel → Texel → Bool
texel_eq R8 R8 = true
texel_eq R8 R32 = false
texel_eq R32 R8 = false
texel_eq R32 R32 = true

abbrev pub bytes_of : Shape → ℕ
bytes_of (Buffer size) = size
bytes_of (Image width height texel) = width * height * texel_bytes texel

abbrev pub is_buffer : Shape → Bool
is_buffer (Buffer size) = true
is_buffer (Image width height texel) = false

abbrev pub is_image : Shape → Bool
is_image (Buffer size) = false
is_image (Image width height texel) = true

-- an image with such texels
abbrev pub has_texel : Texel → Shape → Bool
has_texel t (Buffer size) = false
has_texel t (Image width height texel) = texel_eq t texel

-- an image with these sides
abbrev pub has_sides : ℕ → ℕ → Shape → Bool
has_sides w h (Buffer size) = false
has_sides w h (Image width height texel) = w == width && h == height

-- the rows of texels that an operation sees: an image's own, or one row of the 32-bit words of a buffer of whole words
abbrev pub grid_of : Shape → Option Grid
grid_of (Buffer size) = if size % 4 == 0 then Some (record { width = size / 4; height = 1; texel = R32 }) else None
grid_of (Image width height texel) = Some (record { width = width; height = height; texel = texel })

abbrev pub grid_eq : Grid → Grid → Bool
grid_eq a b = a.width == b.width && a.height == b.height && texel_eq a.texel b.texel

-- both have a grid, and it is one
abbrev pub equal_grids : Option Grid → Option Grid → Bool
equal_grids (Some a) (Some b) = grid_eq a b
equal_grids (Some a) None = false
equal_grids None b = false

abbrev pub same_grid : Shape → Shape → Bool
same_grid a b = equal_grids (grid_of a) (grid_of b)

-- two images with one texel
abbrev pub same_texel : Shape → Shape → Bool
same_texel (Buffer size) b = false
same_texel (Image width height texel) b = has_texel texel b

-- two images with equal sides
abbrev pub same_sides : Shape → Shape → Bool
same_sides (Buffer size) b = false
same_sides (Image width height texel) b = has_sides width height b

-- two images, the first with sides twice those of the second
abbrev pub twice_the_sides : Shape → Shape → Bool
twice_the_sides a (Buffer size) = false
twice_the_sides a (Image width height texel) = has_sides (2 * width) (2 * height) a

-- bytes offset to offset + size are inside a buffer
abbrev pub has_bytes : Shape → ℕ → ℕ → Bool
has_bytes (Buffer total) offset size = nat_le (offset + size) total
has_bytes (Image width height texel) offset size = false

-- a rectangle of texels, with sides of at least one, is inside an image
abbrev pub has_rect : Shape → ℕ → ℕ → ℕ → ℕ → Bool
has_rect (Buffer size) x y w h = false
has_rect (Image width height texel) x y w h = nat_le 1 w && nat_le 1 h && nat_le (x + w) width && nat_le (y + h) height
