-- Rectangles over what was written down before.
use Rattle.std.proofs.Common.{◌≡◌, ℕ, ◌+◌, ◌%◌, List, [], ◌∷◌, sym, ap, ◌∙◌, arith}
use Rattle.base.specs.Kernels.{under, drawn}
use Rattle.base.specs.Texels.{modulus, painted, picture}
use Rattle.base.specs.declared.grid.Grid.{Grid}
use Rattle.base.specs.declared.op.Rect.{Rect}
use Rattle.kernel.proofs.DrawnRects.{under_painted}
use Rattle.kernel.proofs.Pictures.{same_band, picture_painted}

-- one rectangle over pictures that are painted alike
under_alike : (g : Grid) (f h : ℕ → ℕ → ℕ) (rect : Rect) → painted g f ≡ painted g h → painted g (under g.texel f rect) ≡ painted g (under g.texel h rect)
under_alike g f h rect same =
    sym (under_painted g f rect)
    ∙ ap (λ (bytes : List ℕ). painted g (under g.texel (picture g bytes) rect)) same
    ∙ under_painted g h rect

-- each of them
pub drawn_alike : (g : Grid) (rects : List Rect) (f h : ℕ → ℕ → ℕ) → painted g f ≡ painted g h → painted g (drawn g.texel rects f) ≡ painted g (drawn g.texel rects h)
drawn_alike g [] f h same = same
drawn_alike g (rect ∷ rects) f h same = drawn_alike g rects (under g.texel f rect) (under g.texel h rect) (under_alike g f h rect same)

-- the texels of what was painted in one number
pub one_number : (g : Grid) (value : ℕ) → painted g (picture g (painted g (λ x y. value))) ≡ painted g (λ x y. value % modulus g.texel)
one_number g value =
    let f = λ (x y : ℕ). value in
    same_band g.texel g.width 0 g.height (picture g (painted g f)) (λ x y. value % modulus g.texel) (λ x y hx hy.
    ap (λ (n : ℕ). n % modulus g.texel) (picture_painted g f x (0 + y) hx (omega arith)))
