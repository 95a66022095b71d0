-- Whole operations leave no old byte.
use Rattle.std.proofs.Common.{◌≡◌, ℕ, ◌+◌, ◌-◌, ◌<◌, true, false, List, [], Some, None, length, drop, refl, sym, ◌∙◌, arith}
use Rattle.std.specs.Prelude.{◌&&◌, ◌==◌, if◌then◌else◌}
use Rattle.std.proofs.lemmas.Bool.Decides.{nat_tests}
use Rattle.std.proofs.lemmas.List.{drop_all, append-nil}
use Rattle.base.proofs.Booleans.{both}
use Rattle.base.specs.Applied.{replaced}
use Rattle.base.specs.Kernels.{is_inside}
use Rattle.base.specs.Shapes.{bytes_of, has_sides}
use Rattle.base.specs.Texels.{canvas_of, painted, picture}
use Rattle.base.specs.Wholes.{is_whole}
use Rattle.base.specs.declared.grid.Grid.{Grid}
use Rattle.base.specs.declared.op.Op.{Op}
use Rattle.base.specs.declared.op.Op.TheVariants.{FillBuffer, ClearImage, CopyBuffer, CopyImage, BufferToImage, ImageToBuffer, Ramp, Map, Combine, Select, Convert, Box3, Halve, Histogram, Draw}
use Rattle.base.specs.declared.shape.Shape.{Shape}
use Rattle.base.specs.declared.shape.Shape.TheVariants.{Buffer, Image}
use Rattle.kernel.specs.Anew.{IgnoresOld}
use Rattle.kernel.proofs.Fitting.{number_same}
use Rattle.kernel.proofs.Pictures.{same_band}

-- all bytes in the place of theirs
all_replaced : (old : List ℕ) (offset size n : ℕ) (bytes : List ℕ) → (offset == 0 && size == n) ≡ true → length old ≡ n → replaced old offset size bytes ≡ bytes
all_replaced old offset size n bytes e len =
    let parts = both (offset == 0) (size == n) e in
    let start : offset ≡ 0 = number_same offset 0 parts.0 in
    let end : size ≡ n = number_same size n parts.1 in
    let none : drop (0 + size) old ≡ [] = drop_all (0 + size) old (omega (arith, len, end)) in
    rw (start, none) (append-nil bytes)

all_inside : (w h x y : ℕ) → x < w → y < h → is_inside 0 0 w h x y ≡ true
all_inside w h x y hx hy = grind (arith, nat_tests)

-- a rectangle that covers the grid
covered : (g : Grid) (p q r : ℕ → ℕ → ℕ) → painted g (λ x y. if is_inside 0 0 g.width g.height x y then p x y else q x y) ≡ painted g (λ x y. if is_inside 0 0 g.width g.height x y then p x y else r x y)
covered g p q r = same_band g.texel g.width 0 g.height (λ x y. if is_inside 0 0 g.width g.height x y then p x y else q x y) (λ x y. if is_inside 0 0 g.width g.height x y then p x y else r x y) (λ x y hx hy.
    rw (all_inside g.width g.height x (0 + y) hx (omega arith)) refl)

copy_covers : (src dst : Shape) (sx sy x y w h : ℕ) → (x == 0 && y == 0 && has_sides w h dst) ≡ true → IgnoresOld (CopyImage src dst sx sy x y w h)
copy_covers src (Buffer n) sx sy x y w h e first second third old other len same =
    let no : false ≡ true = (both (x == 0 && y == 0) false e).1 in
    absurd cc
copy_covers src (Image v k t) sx sy x y w h e first second third old other len same =
    let parts = both (x == 0 && y == 0) (w == v && h == k) e in
    let corner = both (x == 0) (y == 0) parts.0 in
    let sides = both (w == v) (h == k) parts.1 in
    let g = canvas_of (Image v k t) in
    let across : x ≡ 0 = number_same x 0 corner.0 in
    let down : y ≡ 0 = number_same y 0 corner.1 in
    let wide : w ≡ v = number_same w v sides.0 in
    let high : h ≡ k = number_same h k sides.1 in
    rw (across, down, wide, high) (covered g (λ x' y'. picture (canvas_of src) first (sx + (x' - 0)) (sy + (y' - 0))) (picture g old) (picture g other))

pub ignores_old : (op : Op Shape) → is_whole op ≡ true → IgnoresOld op
ignores_old (FillBuffer dst offset size word) e first second third old other len same = all_replaced old offset size (bytes_of dst) _ e len ∙ sym (all_replaced other offset size (bytes_of dst) _ e same)
ignores_old (ClearImage dst value) e first second third old other len same = refl
ignores_old (CopyBuffer src dst src_offset offset size) e first second third old other len same = all_replaced old offset size (bytes_of dst) _ e len ∙ sym (all_replaced other offset size (bytes_of dst) _ e same)
ignores_old (CopyImage src dst sx sy x y w h) e first second third old other len same = copy_covers src dst sx sy x y w h e first second third old other len same
ignores_old (BufferToImage src dst offset) e first second third old other len same = refl
ignores_old (ImageToBuffer src dst offset) e first second third old other len same = all_replaced old offset (bytes_of src) (bytes_of dst) _ e len ∙ sym (all_replaced other offset (bytes_of src) (bytes_of dst) _ e same)
ignores_old (Ramp dst base dx dy) e first second third old other len same = refl
ignores_old (Map src dst fun value) e first second third old other len same = refl
ignores_old (Combine a b dst fun) e first second third old other len same = refl
ignores_old (Select mask a b dst) e first second third old other len same = refl
ignores_old (Convert src dst) e first second third old other len same = refl
ignores_old (Box3 src dst) e first second third old other len same = refl
ignores_old (Halve src dst) e first second third old other len same = refl
ignores_old (Histogram src dst) e first second third old other len same = refl
ignores_old (Draw dst (Some value) rects) e first second third old other len same = refl
ignores_old (Draw dst None rects) e first second third old other len same = absurd cc
