-- Texels as numbers at coordinates, and the bytes that hold them: rows in order, each number with its lowest byte first.
use Rattle.std.specs.Prelude.{ℕ, List, ◌+◌, ◌*◌, ◌/◌, ◌^◌}
use Rattle.std.specs.List.{flat_map, range_with_len}
use Rattle.std.specs.Simd.Lanes.{chunk, digits_l, number_l}
use Rattle.base.specs.Shapes.{texel_bytes}
use Rattle.base.specs.declared.grid.Grid.{Grid}
use Rattle.base.specs.declared.shape.Shape.{Shape}
use Rattle.base.specs.declared.shape.Shape.TheVariants.{Buffer, Image}
use Rattle.base.specs.declared.shape.Texel.{Texel}
use Rattle.base.specs.declared.shape.Texel.TheVariants.{R8, R32}

abbrev pub texel_bits : Texel → ℕ
texel_bits R8 = 8
texel_bits R32 = 32

-- texels are numbers below this, and arithmetic on them is modulo it
abbrev pub modulus : Texel → ℕ
modulus t = 2 ^ texel_bits t

-- the number in place i
unfoldable pub texel_at : Texel → List ℕ → ℕ → ℕ
texel_at t bytes i = number_l 256 (chunk (texel_bytes t * i) (texel_bytes t) bytes)

-- a number's bytes, as far as they are kept
unfoldable pub low_bytes : Texel → ℕ → List ℕ
low_bytes t n = digits_l 256 (texel_bytes t) n

-- the texels that kernels see: an image's own, or the whole words of a buffer in one row
abbrev pub canvas_of : Shape → Grid
canvas_of (Buffer size) = record { width = size / 4; height = 1; texel = R32 }
canvas_of (Image width height texel) = record { width = width; height = height; texel = texel }

-- the number at (x, y)
abbrev pub picture : Grid → List ℕ → ℕ → ℕ → ℕ
picture g bytes x y = texel_at g.texel bytes (y * g.width + x)

-- the bytes of a band: so many rows of such a width, from one on, with the number f x y at (x, y)
unfoldable pub band : Texel → ℕ → ℕ → ℕ → (ℕ → ℕ → ℕ) → List ℕ
band t width first count f = flat_map (λ y. flat_map (λ x. low_bytes t (f x y)) (range_with_len 0 width)) (range_with_len first count)

-- all rows
abbrev pub painted : Grid → (ℕ → ℕ → ℕ) → List ℕ
painted g f = band g.texel g.width 0 g.height f
