-- Places of texels, row by row.
use Rattle.std.proofs.Common.{◌≡◌, ◌≢◌, ℕ, ◌+◌, ◌-◌, ◌*◌, ◌<◌, ◌≤◌, arith, ◌∙◌, below_more, inl, inr}
use Rattle.std.proofs.lemmas.Bool.{cases_eq, cases_lt}
use Rattle.base.specs.Shapes.{texel_bytes}
use Rattle.base.specs.declared.shape.Texel.{Texel}
use Rattle.base.specs.declared.shape.Texel.TheVariants.{R8, R32}

-- texel (x, y) of each row of width w is f x y
abbrev pub IsImage : (ℕ → ℕ) → ℕ → ℕ → (ℕ → ℕ → ℕ) → Type 0
IsImage texel w h f = (x y : ℕ) → x < w → y < h → texel (y * w + x) ≡ f x y

-- the rows before y are written, and x texels of row y
pub record IsUpTo (texel : ℕ → ℕ) (w y x : ℕ) (f : ℕ → ℕ → ℕ) : Type 0 where
  pub above : IsImage texel w y f
  pub here : (k : ℕ) → k < x → texel (y * w + k) ≡ f k y

-- a place of an earlier row
pub apart : (w y x y' x' : ℕ) → x' < w → y' < y → y' * w + x' < y * w
apart w y x y' x' hx hy = let m : (y' + 1) * w ≤ y * w = grind arith in omega (arith, m)

-- a place of the image
pub place_within : (w h y x : ℕ) → x < w → y < h → y * w + x < w * h
place_within w h y x hx hy = let m : (y + 1) * w ≤ h * w = grind arith in omega (arith, m)

-- its bytes are there
pub place_fits : (t : Texel) (i w h y x n : ℕ) → i ≡ y * w + x → x < w → y < h → n ≡ texel_bytes t * (w * h) → texel_bytes t * i + texel_bytes t ≤ n
place_fits R8 i w h y x n e hx hy len = omega (arith, place_within w h y x hx hy)
place_fits R32 i w h y x n e hx hy len = omega (arith, place_within w h y x hx hy)

pub row_starts : (t : ℕ → ℕ) (w y : ℕ) (f : ℕ → ℕ → ℕ) → IsImage t w y f → IsUpTo t w y 0 f
row_starts t w y f above = record { above = above; here = λ k h. absurd (omega (arith, h)) }

pub row_ends : (t : ℕ → ℕ) (w y : ℕ) (f : ℕ → ℕ → ℕ) → IsUpTo t w y w f → IsImage t w (y + 1) f
row_ends t w y f up x y' hx = below_more (λ y'. t (y' * w + x) ≡ f x y') y (λ k h. up.above x k hx h) (up.here x hx) y'

-- one more texel
pub row_goes_on : (t u : ℕ → ℕ) (w y x : ℕ) (f : ℕ → ℕ → ℕ) → IsUpTo t w y x f
    → u (y * w + x) ≡ f x y
    → ((k : ℕ) → k ≢ y * w + x → u k ≡ t k)
    → IsUpTo u w y (x + 1) f
row_goes_on t u w y x f up now others = record {
  above = λ x' y' hx hy. others (y' * w + x') (λ e. absurd (omega (arith, e, apart w y x y' x' hx hy))) ∙ up.above x' y' hx hy;
  here = below_more (λ k. u (y * w + k) ≡ f k y) x (λ k h. others (y * w + k) (λ e. absurd (omega (arith, e, h))) ∙ up.here k h) now;
}

-- the same, where the last texel of the row is written too
pub record IsFramed (texel : ℕ → ℕ) (w y x : ℕ) (f : ℕ → ℕ → ℕ) : Type 0 where
  pub above : IsImage texel w y f
  pub here : (k : ℕ) → k < x → texel (y * w + k) ≡ f k y
  pub last : texel (y * w + (w - 1)) ≡ f (w - 1) y

pub frame_starts : (t u v : ℕ → ℕ) (w y : ℕ) (f : ℕ → ℕ → ℕ) → 0 < w → IsImage t w y f
    → u (y * w) ≡ f 0 y → ((k : ℕ) → k ≢ y * w → u k ≡ t k)
    → v (y * w + (w - 1)) ≡ f (w - 1) y → ((k : ℕ) → k ≢ y * w + (w - 1) → v k ≡ u k)
    → IsFramed v w y 1 f
frame_starts t u v w y f some above first others last rest = record {
  above = λ x' y' hx hy.
      let before = apart w y 0 y' x' hx hy in
      rest (y' * w + x') (λ e. absurd (omega (arith, e, before))) ∙ others (y' * w + x') (λ e. absurd (omega (arith, e, before))) ∙ above x' y' hx hy;
  here = λ k h.
      elim (cases_eq (w - 1) 0) [
        | inl one ↦ let e : k ≡ w - 1 = omega arith in rw e last
        | inr more ↦
            let e : k ≡ 0 = omega arith in
            let place : y * w + 0 ≡ y * w = omega arith in
            rw (e, place) (rest (y * w) (λ same. more (omega arith)) ∙ first)
      ];
  last = last;
}

pub frame_goes_on : (t u : ℕ → ℕ) (w y x : ℕ) (f : ℕ → ℕ → ℕ) → x < w - 1 → IsFramed t w y x f
    → u (y * w + x) ≡ f x y
    → ((k : ℕ) → k ≢ y * w + x → u k ≡ t k)
    → IsFramed u w y (x + 1) f
frame_goes_on t u w y x f inside up now others = record {
  above = λ x' y' hx hy. others (y' * w + x') (λ e. absurd (omega (arith, e, apart w y x y' x' hx hy))) ∙ up.above x' y' hx hy;
  here = below_more (λ k. u (y * w + k) ≡ f k y) x (λ k h. others (y * w + k) (λ e. absurd (omega (arith, e, h))) ∙ up.here k h) now;
  last = others (y * w + (w - 1)) (λ e. absurd (omega (arith, e, inside))) ∙ up.last;
}

pub frame_ends : (t : ℕ → ℕ) (w y x : ℕ) (f : ℕ → ℕ → ℕ) → w - 1 ≤ x → IsFramed t w y x f → IsImage t w (y + 1) f
frame_ends t w y x f end up x' y' hx hy =
    let row : t (y * w + x') ≡ f x' y =
    elim (cases_lt x' x) [
      | inl before ↦ up.here x' before
      | inr after ↦ let e : x' ≡ w - 1 = omega arith in rw e up.last
    ] in
    below_more (λ k. t (k * w + x') ≡ f x' k) y (λ k h. up.above x' k hx h) row y' hy
