-- Rectangles one after another.
use Rattle.std.proofs.Common.{◌≡◌, ℕ, ◌+◌, ◌*◌, ◌%◌, ◌<◌, Bool, true, false, List, length, get_or, take, refl, sym, ap, ◌∙◌, arith, bit_and, bit_or, bit_xor}
use Rattle.std.specs.Prelude.{if◌then◌else◌}
use Rattle.std.proofs.lemmas.Bool.Decides.{nat_tests}
use Rattle.std.proofs.lemmas.List.Sums.{fold_more}
use Rattle.std.proofs.lemmas.Nat.{and_mod, or_mod, xor_mod}
use Rattle.base.specs.Fits.{has_drawn}
use Rattle.base.specs.Kernels.{is_inside, mixed, under, drawn}
use Rattle.base.specs.Shapes.{bytes_of, texel_bytes, is_image}
use Rattle.base.specs.Texels.{canvas_of, modulus, painted, picture, texel_bits}
use Rattle.base.specs.declared.grid.Grid.{Grid}
use Rattle.base.specs.declared.op.Mix.{Mix}
use Rattle.base.specs.declared.op.Mix.TheVariants as mixes
use Rattle.base.specs.declared.op.Rect.{Rect}
use Rattle.base.specs.declared.shape.Shape.{Shape}
use Rattle.base.specs.declared.shape.Shape.TheVariants.{Buffer, Image}
use Rattle.base.specs.declared.shape.Texel.{Texel}
use Rattle.base.specs.declared.shape.Texel.TheVariants.{R8, R32}
use Rattle.kernel.proofs.Moduli.{cut_twice}
use Rattle.kernel.proofs.Pictures.{same_band, picture_painted}
use Rattle.kernel.specs.Rects.{IsWithin}

mixed_cut : (t : Texel) (mix : Mix) (n value : ℕ) → mixed mix (n % modulus t) value % modulus t ≡ mixed mix n value % modulus t
mixed_cut t mixes.Set n value = refl
mixed_cut t mixes.And n value = and_mod (n % modulus t) value (texel_bits t) ∙ ap (λ (k : ℕ). bit_and k (value % modulus t)) (cut_twice t n) ∙ sym (and_mod n value (texel_bits t))
mixed_cut t mixes.Or n value = or_mod (n % modulus t) value (texel_bits t) ∙ ap (λ (k : ℕ). bit_or k (value % modulus t)) (cut_twice t n) ∙ sym (or_mod n value (texel_bits t))
mixed_cut t mixes.Xor n value = xor_mod (n % modulus t) value (texel_bits t) ∙ ap (λ (k : ℕ). bit_xor k (value % modulus t)) (cut_twice t n) ∙ sym (xor_mod n value (texel_bits t))

either_cut : (t : Texel) (b : Bool) (mix : Mix) (n value : ℕ) → (if b then mixed mix (n % modulus t) value else n % modulus t) % modulus t ≡ (if b then mixed mix n value else n) % modulus t
either_cut t true mix n value = mixed_cut t mix n value
either_cut t false mix n value = cut_twice t n

-- a rectangle on what was painted
pub under_painted : (g : Grid) (f : ℕ → ℕ → ℕ) (rect : Rect) → painted g (under g.texel (picture g (painted g f)) rect) ≡ painted g (under g.texel f rect)
under_painted g f rect =
    same_band g.texel g.width 0 g.height (under g.texel (picture g (painted g f)) rect) (under g.texel f rect) (λ x y hx hy.
    let row = 0 + y in
    let b = is_inside rect.x rect.y rect.width rect.height x row in
    let value = rect.value % modulus g.texel in
    ap (λ (n : ℕ). (if b then mixed rect.mix n value else n) % modulus g.texel) (picture_painted g f x row hx (omega arith))
    ∙ either_cut g.texel b rect.mix (f x row) value)

-- one rectangle more
pub drawn_more : (g : Grid) (f : ℕ → ℕ → ℕ) (rects : List Rect) (i : ℕ) (rect : Rect) (now new : List ℕ) → i < length rects
    → now ≡ painted g (drawn g.texel (take i rects) f)
    → new ≡ painted g (under g.texel (picture g now) (get_or rects i rect))
    → new ≡ painted g (drawn g.texel (take (i + 1) rects) f)
drawn_more g f rects i rect now new within before step =
    step
    ∙ ap (λ (bytes : List ℕ). painted g (under g.texel (picture g bytes) (get_or rects i rect))) before
    ∙ under_painted g (drawn g.texel (take i rects) f) (get_or rects i rect)
    ∙ ap (λ (h : ℕ → ℕ → ℕ). painted g h) (sym (fold_more (under g.texel) f rects i rect within))

pub image_bytes : (s : Shape) → is_image s ≡ true → bytes_of s ≡ texel_bytes (canvas_of s).texel * ((canvas_of s).width * (canvas_of s).height)
image_bytes (Buffer size) e = absurd cc
image_bytes (Image w h R8) e = omega arith
image_bytes (Image w h R32) e = omega arith

inside : (s : Shape) (rect : Rect) → has_drawn s rect ≡ true → IsWithin (canvas_of s) rect
inside (Buffer size) rect e = absurd cc
inside (Image w h t) rect e = (grind (arith, nat_tests), grind (arith, nat_tests))
