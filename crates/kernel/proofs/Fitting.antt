-- How many bytes and texels operands have, where an operation fits.
use Rattle.std.proofs.Common.{◌≡◌, ℕ, ◌+◌, ◌*◌, ◌/◌, ◌%◌, ◌≤◌, Bool, true, false, Option, Some, None, is_some, refl, sym, ap, ◌∙◌, arith}
use Rattle.std.specs.Prelude.{◌&&◌, ◌==◌, nat_le, if◌then◌else◌}
use Rattle.std.proofs.lemmas.Bool.Decides.{nat_tests}
use Rattle.base.proofs.Booleans.{both}
use Rattle.base.proofs.EffectLengths.{has_room as room}
use Rattle.base.specs.Shapes.{bytes_of, texel_bytes, texel_eq, is_image, grid_of, grid_eq, equal_grids, same_grid, same_texel, same_sides, twice_the_sides, has_bytes, has_rect, has_texel, is_buffer}
use Rattle.base.specs.Texels.{canvas_of}
use Rattle.base.specs.declared.grid.Grid.{Grid}
use Rattle.base.specs.declared.shape.Shape.{Shape}
use Rattle.base.specs.declared.shape.Shape.TheVariants.{Buffer, Image}
use Rattle.base.specs.declared.shape.Texel.{Texel}
use Rattle.base.specs.declared.shape.Texel.TheVariants.{R8, R32}

-- the bytes of a grid
abbrev grid_size : Shape → ℕ
grid_size s = let g = canvas_of s in texel_bytes g.texel * (g.width * g.height)

pub image_bytes : (s : Shape) → is_image s ≡ true → bytes_of s ≡ grid_size s
image_bytes (Buffer size) e = absurd cc
image_bytes (Image w h R8) e = omega arith
image_bytes (Image w h R32) e = omega arith

-- what a grid that is there is
IsCanvas : Shape → Option Grid → Type 0
IsCanvas s None = Unit {0}
IsCanvas s (Some g) = (canvas_of s ≡ g) × (bytes_of s ≡ grid_size s)

words : (n : ℕ) (b : Bool) → (n % 4 == 0) ≡ b → IsCanvas (Buffer n) (if b then Some (record { width = n / 4; height = 1; texel = R32 }) else None)
unfolding IsCanvas
words n true e = (refl, grind (arith, nat_tests))
words n false e = tt

its_canvas : (s : Shape) → IsCanvas s (grid_of s)
unfolding IsCanvas
its_canvas (Buffer n) = words n (n % 4 == 0) refl
its_canvas (Image w h t) = (refl, image_bytes (Image w h t) refl)

at_grid : (s : Shape) (o : Option Grid) → IsCanvas s o → is_some o ≡ true → bytes_of s ≡ grid_size s
unfolding IsCanvas
at_grid s None c e = absurd cc
at_grid s (Some g) c e = c.1

pub grid_bytes : (s : Shape) → is_some (grid_of s) ≡ true → bytes_of s ≡ grid_size s
grid_bytes s e = at_grid s (grid_of s) (its_canvas s) e

same_texels : (s t : Texel) → texel_eq s t ≡ true → s ≡ t
same_texels R8 R8 e = refl
same_texels R8 R32 e = absurd cc
same_texels R32 R8 e = absurd cc
same_texels R32 R32 e = refl

pub number_same : (m n : ℕ) → (m == n) ≡ true → m ≡ n
number_same m n e = grind (arith, nat_tests)

abbrev grid_with : ℕ → ℕ → Texel → Grid
grid_with w h t = record { width = w; height = h; texel = t }

grid_same : (g h : Grid) → grid_eq g h ≡ true → g ≡ h
grid_same g h e =
    let sides_and_texel = both (g.width == h.width && g.height == h.height) (texel_eq g.texel h.texel) e in
    let sides = both (g.width == h.width) (g.height == h.height) sides_and_texel.0 in
    ap (λ (w : ℕ). grid_with w g.height g.texel) (number_same g.width h.width sides.0)
    ∙ ap (λ (k : ℕ). grid_with h.width k g.texel) (number_same g.height h.height sides.1)
    ∙ ap (λ (t : Texel). grid_with h.width h.height t) (same_texels g.texel h.texel sides_and_texel.1)

at_grids : (a b : Shape) (o p : Option Grid) → IsCanvas a o → IsCanvas b p → equal_grids o p ≡ true → (canvas_of a ≡ canvas_of b) × (bytes_of a ≡ grid_size a) × (bytes_of b ≡ grid_size b)
unfolding IsCanvas
at_grids a b None p c d e = absurd cc
at_grids a b (Some g) None c d e = absurd cc
at_grids a b (Some g) (Some h) c d e = (c.0 ∙ grid_same g h e ∙ sym d.0, c.1, d.1)

pub same_canvas : (a b : Shape) → same_grid a b ≡ true → (canvas_of a ≡ canvas_of b) × (bytes_of a ≡ grid_size a) × (bytes_of b ≡ grid_size b)
same_canvas a b e = at_grids a b (grid_of a) (grid_of b) (its_canvas a) (its_canvas b) e

pub same_bytes : (a b : Shape) → same_grid a b ≡ true → bytes_of a ≡ grid_size b
same_bytes a b e = let s = same_canvas a b e in s.1 ∙ ap (λ (g : Grid). texel_bytes g.texel * (g.width * g.height)) s.0

pub same_bytes_to : (a b : Shape) → same_grid a b ≡ true → bytes_of b ≡ grid_size b
same_bytes_to a b e = (same_canvas a b e).2

-- two sources and a destination
pub two_first : (a b to : Shape) → (same_grid a to && same_grid b to) ≡ true → bytes_of a ≡ grid_size to
two_first a b to e = same_bytes a to (both (same_grid a to) (same_grid b to) e).0

pub two_second : (a b to : Shape) → (same_grid a to && same_grid b to) ≡ true → bytes_of b ≡ grid_size to
two_second a b to e = same_bytes b to (both (same_grid a to) (same_grid b to) e).1

pub two_to : (a b to : Shape) → (same_grid a to && same_grid b to) ≡ true → bytes_of to ≡ grid_size to
two_to a b to e = same_bytes_to b to (both (same_grid a to) (same_grid b to) e).1

-- three sources
pub three_pair : (m a b to : Shape) → (same_grid m to && same_grid a to && same_grid b to) ≡ true → (same_grid m to && same_grid a to) ≡ true
three_pair m a b to e = (both (same_grid m to && same_grid a to) (same_grid b to) e).0

pub three_third : (m a b to : Shape) → (same_grid m to && same_grid a to && same_grid b to) ≡ true → bytes_of b ≡ grid_size to
three_third m a b to e = same_bytes b to (both (same_grid m to && same_grid a to) (same_grid b to) e).1

pub three_to : (m a b to : Shape) → (same_grid m to && same_grid a to && same_grid b to) ≡ true → bytes_of to ≡ grid_size to
three_to m a b to e = same_bytes_to b to (both (same_grid m to && same_grid a to) (same_grid b to) e).1

-- images of one grid
pub images_from : (a to : Shape) → (is_image a && is_image to && same_grid a to) ≡ true → bytes_of a ≡ grid_size to
images_from a to e = same_bytes a to (both (is_image a && is_image to) (same_grid a to) e).1

pub images_to : (a to : Shape) → (is_image a && is_image to && same_grid a to) ≡ true → bytes_of to ≡ grid_size to
images_to a to e = same_bytes_to a to (both (is_image a && is_image to) (same_grid a to) e).1

-- images of one size
pub record AreOfOneSize (a to : Shape) : Type 0 where
  pub from : bytes_of a ≡ grid_size a
  pub into : bytes_of to ≡ grid_size to
  pub width : (canvas_of to).width ≡ (canvas_of a).width
  pub height : (canvas_of to).height ≡ (canvas_of a).height

pub one_size : (a to : Shape) → same_sides a to ≡ true → AreOfOneSize a to
one_size (Buffer n) to e = absurd cc
one_size (Image w h t) (Buffer n) e = absurd cc
one_size (Image w h t) (Image v k s) e =
    let sides = both (w == v) (h == k) e in
    record {
      from = image_bytes (Image w h t) refl;
      into = image_bytes (Image v k s) refl;
      width = sym (number_same w v sides.0);
      height = sym (number_same h k sides.1);
    }

pub record IsTwice (a to : Shape) : Type 0 where
  pub from : bytes_of a ≡ grid_size a
  pub into : bytes_of to ≡ grid_size to
  pub width : (canvas_of a).width ≡ 2 * (canvas_of to).width
  pub height : (canvas_of a).height ≡ 2 * (canvas_of to).height

pub twice : (a to : Shape) → (same_texel a to && twice_the_sides a to) ≡ true → IsTwice a to
twice (Buffer n) to e = absurd cc
twice (Image w h t) (Buffer n) e = absurd cc
twice (Image w h t) (Image v k s) e =
    let double = (both (texel_eq t s) (2 * v == w && 2 * k == h) e).1 in
    let sides = both (2 * v == w) (2 * k == h) double in
    record {
      from = image_bytes (Image w h t) refl;
      into = image_bytes (Image v k s) refl;
      width = sym (number_same (2 * v) w sides.0);
      height = sym (number_same (2 * k) h sides.1);
    }

pub record HasRoom (s : Shape) (offset size : ℕ) : Type 0 where
  pub whole : size % 4 ≡ 0
  pub room : offset + size ≤ bytes_of s

pub fill_fits : (s : Shape) (offset size : ℕ) → (offset % 4 == 0 && size % 4 == 0 && nat_le 4 size && has_bytes s offset size) ≡ true → HasRoom s offset size
fill_fits s offset size e =
    let all = both (offset % 4 == 0 && size % 4 == 0 && nat_le 4 size) (has_bytes s offset size) e in
    let first = both (offset % 4 == 0 && size % 4 == 0) (nat_le 4 size) all.0 in
    record {
      whole = number_same (size % 4) 0 (both (offset % 4 == 0) (size % 4 == 0) first.0).1;
      room = room s offset size all.1;
    }

pub copy_fits : (a to : Shape) (from into size : ℕ) → (nat_le 1 size && has_bytes a from size && has_bytes to into size) ≡ true → (from + size ≤ bytes_of a) × (into + size ≤ bytes_of to)
copy_fits a to from into size e =
    let all = both (nat_le 1 size && has_bytes a from size) (has_bytes to into size) e in
    (room a from size (both (nat_le 1 size) (has_bytes a from size) all.0).1, room to into size all.1)

pub upload_fits : (a to : Shape) (offset : ℕ) → (is_image to && offset % 4 == 0 && has_bytes a offset (bytes_of to)) ≡ true → offset + bytes_of to ≤ bytes_of a
upload_fits a to offset e = room a offset (bytes_of to) (both (is_image to && offset % 4 == 0) (has_bytes a offset (bytes_of to)) e).1

pub download_fits : (a to : Shape) (offset : ℕ) → (is_image a && offset % 4 == 0 && has_bytes to offset (bytes_of a)) ≡ true → offset + bytes_of a ≤ bytes_of to
download_fits a to offset e = upload_fits to a offset e

pub record HasArea (s : Shape) (x y w h : ℕ) : Type 0 where
  pub bytes : bytes_of s ≡ grid_size s
  pub columns : x + w ≤ (canvas_of s).width
  pub rows : y + h ≤ (canvas_of s).height

pub area_of : (s : Shape) (x y w h : ℕ) → has_rect s x y w h ≡ true → HasArea s x y w h
area_of (Buffer n) x y w h e = absurd cc
area_of (Image v k t) x y w h e = record { bytes = image_bytes (Image v k t) refl; columns = grind (arith, nat_tests); rows = grind (arith, nat_tests) }

pub copy_image_fits : (a to : Shape) (sx sy x y w h : ℕ) → (same_texel a to && has_rect a sx sy w h && has_rect to x y w h) ≡ true → HasArea a sx sy w h × HasArea to x y w h
copy_image_fits a to sx sy x y w h e =
    let all = both (same_texel a to && has_rect a sx sy w h) (has_rect to x y w h) e in
    (area_of a sx sy w h (both (same_texel a to) (has_rect a sx sy w h) all.0).1, area_of to x y w h all.1)

-- the buffer that a histogram goes to
buffer_of : (s : Shape) → (is_buffer s && bytes_of s == 1024) ≡ true → s ≡ Buffer 1024
buffer_of (Buffer n) e = ap (λ (k : ℕ). Buffer k) (number_same n 1024 e)
buffer_of (Image w h t) e = absurd cc

pub histogram_to : (a to : Shape) → (has_texel R8 a && is_buffer to && bytes_of to == 1024) ≡ true → to ≡ Buffer 1024
histogram_to a to e =
    let all = both (has_texel R8 a && is_buffer to) (bytes_of to == 1024) e in
    buffer_of to (rw ((both (has_texel R8 a) (is_buffer to) all.0).1, all.1) refl)
