-- An operation that fits leaves as many bytes as its destination has.
use Rattle.std.proofs.Common.{◌≡◌, ℕ, suc, ◌+◌, ◌-◌, ◌*◌, ◌/◌, ◌%◌, ◌≤◌, ◌&&◌, ◌==◌, nat_le, Bool, true, false, Option, Some, None, is_some, List, [], ◌∷◌, ◌++◌, length, map, take, drop, if◌then◌else◌, refl, sym, ap, ◌∙◌, arith}
use Rattle.std.specs.List.{All, flat_map, range_with_len, slice_range, list_all}
use Rattle.std.proofs.lemmas.Bool.{and_parts, eqb-true}
use Rattle.std.proofs.lemmas.Bool.Decides.{nat_tests}
use Rattle.std.proofs.lemmas.List.{length-append, length-take-le, length-drop}
use Rattle.std.proofs.lemmas.List.FromFn.{length-range_with_len}
use Rattle.base.specs.Applied.{replaced, applied, bytes_at}
use Rattle.base.specs.Fits.{fits, is_aligned, has_drawn}
use Rattle.base.specs.Operands.{sources_of, destination_of, operands_of, mapped}
use Rattle.base.specs.Shapes.{texel_bytes, bytes_of, shape_at, is_image, is_buffer, has_texel, grid_of, equal_grids, same_grid, same_texel, same_sides, twice_the_sides, has_bytes, has_rect}
use Rattle.base.specs.Texels.{low_bytes, canvas_of, band, painted}
use Rattle.base.specs.declared.grid.Grid.{Grid}
use Rattle.base.specs.declared.op.Op.{Op}
use Rattle.base.specs.declared.op.Op.TheVariants.{FillBuffer, ClearImage, CopyBuffer, CopyImage, BufferToImage, ImageToBuffer, Ramp, Map, Combine, Select, Convert, Box3, Halve, Histogram, Draw}
use Rattle.base.specs.declared.shape.Shape.{Shape}
use Rattle.base.specs.declared.shape.Shape.TheVariants.{Buffer, Image}
use Rattle.base.specs.declared.shape.Texel.{Texel}
use Rattle.base.specs.declared.shape.Texel.TheVariants.{R8, R32}

-- PICTURES

long_all : (c : ℕ) (f : ℕ → List ℕ) (xs : List ℕ) → ((x : ℕ) → length (f x) ≡ c) → length (flat_map f xs) ≡ c * length xs
long_all c f [] h = omega arith
long_all c f (x ∷ xs) h =
    let e : length (f x) ≡ c = h x in
    let r : length (flat_map f xs) ≡ c * length xs = long_all c f xs h in
    let s : c * suc (length xs) ≡ c + c * length xs = grind arith in
    length-append (f x) (flat_map f xs) ∙ omega (arith, e, r, s)

texel_long : (t : Texel) (n : ℕ) → length (low_bytes t n) ≡ texel_bytes t
unfolding low_bytes
texel_long R8 n = refl
texel_long R32 n = refl

row_long : (t : Texel) (w : ℕ) (f : ℕ → ℕ) → length (flat_map (λ x. low_bytes t (f x)) (range_with_len 0 w)) ≡ texel_bytes t * w
row_long t w f = long_all (texel_bytes t) (λ x. low_bytes t (f x)) (range_with_len 0 w) (λ x. texel_long t (f x)) ∙ ap (λ n. texel_bytes t * n) (length-range_with_len 0 w)

painted_long : (g : Grid) (f : ℕ → ℕ → ℕ) → length (painted g f) ≡ texel_bytes g.texel * (g.width * g.height)
unfolding band
painted_long g f =
    long_all (texel_bytes g.texel * g.width) (λ y. flat_map (λ x. low_bytes g.texel (f x y)) (range_with_len 0 g.width)) (range_with_len 0 g.height) (λ y. row_long g.texel g.width (λ x. f x y))
    ∙ ap (λ n. texel_bytes g.texel * g.width * n) (length-range_with_len 0 g.height)
    ∙ times (texel_bytes g.texel) g.width g.height
  where
    times : (a b c : ℕ) → a * b * c ≡ a * (b * c)
    times a b c = grind arith

-- SHAPES THAT ARE ALL TEXELS

-- the texels of the canvas are all of its bytes
abbrev IsCanvas : Shape → Type 0
IsCanvas s = bytes_of s ≡ texel_bytes (canvas_of s).texel * ((canvas_of s).width * (canvas_of s).height)

image_canvas : (s : Shape) → is_image s ≡ true → IsCanvas s
image_canvas (Buffer size) e = absurd cc
image_canvas (Image w h R8) e = omega arith
image_canvas (Image w h R32) e = omega arith

grid_canvas : (s : Shape) → is_some (grid_of s) ≡ true → IsCanvas s
grid_canvas (Buffer n) e = whole (n % 4 == 0) refl e
  where
    whole : (b : Bool) → (n % 4 == 0) ≡ b → is_some (if b then Some (let g : Grid = record { width = n / 4; height = 1; texel = R32 } in g) else None) ≡ true → n ≡ 4 * (n / 4 * 1)
    whole true h e = let r : n % 4 ≡ 0 = eqb-true (n % 4) 0 h in omega (arith, r)
    whole false h e = absurd cc
grid_canvas (Image w h t) e = image_canvas (Image w h t) refl

same_canvas : (a b : Shape) → same_grid a b ≡ true → IsCanvas b
same_canvas a b e = grid_canvas b (there (grid_of a) (grid_of b) e)
  where
    there : (o p : Option Grid) → equal_grids o p ≡ true → is_some p ≡ true
    there None p e = absurd cc
    there (Some g) None e = absurd cc
    there (Some g) (Some h) e = refl

sides_canvas : (a b : Shape) → same_sides a b ≡ true → IsCanvas b
sides_canvas (Buffer n) b e = absurd cc
sides_canvas (Image w h t) (Buffer n) e = absurd cc
sides_canvas (Image w h t) (Image v k s) e = image_canvas (Image v k s) refl

twice_canvas : (a b : Shape) → twice_the_sides a b ≡ true → IsCanvas b
twice_canvas a (Buffer n) e = absurd cc
twice_canvas a (Image v k s) e = image_canvas (Image v k s) refl

rect_canvas : (s : Shape) (x y w h : ℕ) → has_rect s x y w h ≡ true → IsCanvas s
rect_canvas (Buffer n) x y w h e = absurd cc
rect_canvas (Image v k t) x y w h e = image_canvas (Image v k t) refl

table_canvas : (s : Shape) → (is_buffer s && bytes_of s == 1024) ≡ true → IsCanvas s
table_canvas (Buffer n) e = let size : n ≡ 1024 = eqb-true n 1024 e in omega (arith, size)
table_canvas (Image w h t) e = absurd cc

-- PARTS OF BUFFERS

pub has_room : (s : Shape) (offset size : ℕ) → has_bytes s offset size ≡ true → offset + size ≤ bytes_of s
has_room (Buffer n) offset size e = grind (arith, nat_tests)
has_room (Image w h t) offset size e = absurd cc

replaced_long : (old : List ℕ) (offset size : ℕ) (bytes : List ℕ) → offset + size ≤ length old → length bytes ≡ size → length (replaced old offset size bytes) ≡ length old
replaced_long old offset size bytes room e =
    let a = length-take-le offset old (omega (arith, room)) in
    let b = length-drop (offset + size) old in
    length-append (take offset old ++ bytes) (drop (offset + size) old)
    ∙ ap (λ n. n + length (drop (offset + size) old)) (length-append (take offset old) bytes)
    ∙ omega (arith, a, b, e, room)

range_long : (bytes : List ℕ) (from size : ℕ) → from + size ≤ length bytes → length (slice_range bytes from (from + size)) ≡ size
range_long bytes from size room =
    let a = length-drop from bytes in
    length-take-le (from + size - from) (drop from bytes) (omega (arith, a, room)) ∙ omega arith

-- OPERATIONS

last_part : (a b : Bool) → (a && b) ≡ true → b ≡ true
last_part a b e = (and_parts a b e).1

module _ (shapes : List Shape) (bytes : List (List ℕ)) where
  -- the bytes of an operand are as many as it has
  abbrev pub IsLong : ℕ → Type 0
  IsLong n = length (bytes_at bytes n) ≡ bytes_of (shape_at shapes n)

  abbrev sh : ℕ → Shape
  sh n = shape_at shapes n

  picture_long : (n : ℕ) → (f : ℕ → ℕ → ℕ) → IsCanvas (shape_at shapes n) → length (painted (canvas_of (shape_at shapes n)) f) ≡ bytes_of (shape_at shapes n)
  picture_long n f e = painted_long (canvas_of (shape_at shapes n)) f ∙ sym e

  pub applied_long : (op : Op ℕ) → All IsLong (operands_of op) → fits (mapped (shape_at shapes) op) ≡ true → length (applied shapes op (map (bytes_at bytes) (sources_of op)) (bytes_at bytes (destination_of op))) ≡ bytes_of (shape_at shapes (destination_of op))
  applied_long (FillBuffer dst offset size word) all fit =
      let parts = and_parts (is_aligned offset && is_aligned size && nat_le 4 size) (has_bytes (sh dst) offset size) fit in
      let whole : size % 4 ≡ 0 = eqb-true (size % 4) 0 (last_part (is_aligned offset) (is_aligned size) (and_parts (is_aligned offset && is_aligned size) (nat_le 4 size) parts.0).0) in
      let old = all 0 0 (omega arith) in
      let words : length (painted (canvas_of (Buffer size)) (λ x y. word)) ≡ size = painted_long (canvas_of (Buffer size)) (λ x y. word) ∙ omega (arith, whole) in
      replaced_long (bytes_at bytes dst) offset size (painted (canvas_of (Buffer size)) (λ x y. word)) (omega (arith, has_room (sh dst) offset size parts.1, old)) words ∙ old
  applied_long (ClearImage dst value) all fit = picture_long dst _ (image_canvas (sh dst) fit)
  applied_long (CopyBuffer src dst src_offset dst_offset size) all fit =
      let parts = and_parts (nat_le 1 size && has_bytes (sh src) src_offset size) (has_bytes (sh dst) dst_offset size) fit in
      let from = all 0 0 (omega arith) in
      let old = all 1 0 (omega arith) in
      replaced_long (bytes_at bytes dst) dst_offset size (slice_range (bytes_at bytes src) src_offset (src_offset + size)) (omega (arith, has_room (sh dst) dst_offset size parts.1, old)) (range_long (bytes_at bytes src) src_offset size (omega (arith, has_room (sh src) src_offset size (last_part (nat_le 1 size) (has_bytes (sh src) src_offset size) parts.0), from))) ∙ old
  applied_long (CopyImage src dst src_x src_y dst_x dst_y width height) all fit = picture_long dst _ (rect_canvas (sh dst) dst_x dst_y width height (last_part (same_texel (sh src) (sh dst) && has_rect (sh src) src_x src_y width height) (has_rect (sh dst) dst_x dst_y width height) fit))
  applied_long (BufferToImage src dst offset) all fit =
      let room = has_room (sh src) offset (bytes_of (sh dst)) (last_part (is_image (sh dst) && is_aligned offset) (has_bytes (sh src) offset (bytes_of (sh dst))) fit) in
      let from = all 0 0 (omega arith) in
      range_long (bytes_at bytes src) offset (bytes_of (sh dst)) (omega (arith, room, from))
  applied_long (ImageToBuffer src dst offset) all fit =
      let room = has_room (sh dst) offset (bytes_of (sh src)) (last_part (is_image (sh src) && is_aligned offset) (has_bytes (sh dst) offset (bytes_of (sh src))) fit) in
      let from = all 0 0 (omega arith) in
      let old = all 1 0 (omega arith) in
      replaced_long (bytes_at bytes dst) offset (bytes_of (sh src)) (bytes_at bytes src) (omega (arith, room, old)) from ∙ old
  applied_long (Ramp dst base dx dy) all fit = picture_long dst _ (grid_canvas (sh dst) fit)
  applied_long (Map src dst fun value) all fit = picture_long dst _ (same_canvas (sh src) (sh dst) fit)
  applied_long (Combine a b dst fun) all fit = picture_long dst _ (same_canvas (sh b) (sh dst) (last_part (same_grid (sh a) (sh dst)) (same_grid (sh b) (sh dst)) fit))
  applied_long (Select mask a b dst) all fit = picture_long dst _ (same_canvas (sh b) (sh dst) (last_part (same_grid (sh mask) (sh dst) && same_grid (sh a) (sh dst)) (same_grid (sh b) (sh dst)) fit))
  applied_long (Convert src dst) all fit = picture_long dst _ (sides_canvas (sh src) (sh dst) fit)
  applied_long (Box3 src dst) all fit = picture_long dst _ (same_canvas (sh src) (sh dst) (last_part (is_image (sh src) && is_image (sh dst)) (same_grid (sh src) (sh dst)) fit))
  applied_long (Halve src dst) all fit = picture_long dst _ (twice_canvas (sh src) (sh dst) (last_part (same_texel (sh src) (sh dst)) (twice_the_sides (sh src) (sh dst)) fit))
  applied_long (Histogram src dst) all fit = picture_long dst _ (table_canvas (sh dst) (histogram (has_texel R8 (sh src)) (is_buffer (sh dst)) (bytes_of (sh dst) == 1024) fit))
    where
      histogram : (a b c : Bool) → (a && b && c) ≡ true → (b && c) ≡ true
      histogram true b c e = e
      histogram false b c e = absurd cc
  applied_long (Draw dst clear rects) all fit = picture_long dst _ (image_canvas (sh dst) (and_parts (is_image (sh dst)) (list_all (has_drawn (sh dst)) rects) fit).0)
