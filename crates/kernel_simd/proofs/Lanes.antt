-- Single lanes of what is computed of two vectors.
use Rattle.std.proofs.Common.{◌≡◌, ℕ, ◌^◌, ◌<◌, ◌-◌, List, length, get_or, Bool, false, cond, ltb, min, max, arith, sym, ap, ◌∙◌, Fits}
use Rattle.std.specs.Int.{Width}
use Rattle.std.specs.Prelude.{replicate}
use Rattle.std.specs.Simd.Lanes.{Each1, Each2, zip2}
use Rattle.std.proofs.lemmas.Bool.Decides.{nat_tests}
use Rattle.std.proofs.lemmas.Simd.{get_or-zip2, length-zip2, tops_compared, get_or-sel_l, get_or-replicate, length-replicate, Each1-from_get_or, Each1-get_or, Each1-all, Each2-of}
use lib.Lanes.{sel_l, top}
use mathlib.Core.List.{map}
use mir.Val.{bits, hbits}

pub lane : (f : ℕ → ℕ → ℕ) (xs ys : List ℕ) (n j : ℕ) → length xs ≡ n → length ys ≡ n → j < n → get_or (zip2 f xs ys) j 0 ≡ f (get_or xs j 0) (get_or ys j 0)
lane f xs ys n j lx ly lt = get_or-zip2 f xs ys j 0 0 0 (omega (arith, lx)) (omega (arith, ly))

-- a vector beside one number
pub lane_splat : (f : ℕ → ℕ → ℕ) (xs : List ℕ) (n y j : ℕ) → length xs ≡ n → j < n → get_or (zip2 f xs (replicate n y)) j 0 ≡ f (get_or xs j 0) y
lane_splat f xs n y j len lt = lane f xs (replicate n y) n j len (length-replicate n y) lt ∙ ap (f (get_or xs j 0)) (get_or-replicate n j y 0 lt)

-- a choice by the comparison of two vectors
pub lane_chosen : (w : Width) (t : ℕ → ℕ → Bool) (a b x y : List ℕ) (n j : ℕ) → length a ≡ n → length b ≡ n → length x ≡ n → length y ≡ n → j < n
    → get_or (sel_l (map (top (hbits w)) (zip2 (λ a b. cond (t a b) (2 ^ bits w - 1) 0) a b)) x y) j 0 ≡ cond (t (get_or a j 0) (get_or b j 0)) (get_or x j 0) (get_or y j 0)
lane_chosen w t a b x y n j la lb lx ly lt =
    let long = length-zip2 t a b (la ∙ sym lb) in
    ap (λ l. get_or l j 0) (ap (λ ms. sel_l ms x y) (tops_compared w t a b))
    ∙ get_or-sel_l (zip2 t a b) x y j 0 (omega (arith, long, la)) (omega (arith, lx)) (omega (arith, ly))
    ∙ ap (λ m. cond m (get_or x j 0) (get_or y j 0)) (get_or-zip2 t a b j 0 0 false (omega (arith, la)) (omega (arith, lb)))

pub least_by_test : (x y : ℕ) → cond (ltb x y) x y ≡ min x y
least_by_test x y = grind (arith, nat_tests)

pub greatest_by_test : (x y : ℕ) → cond (ltb x y) y x ≡ max x y
greatest_by_test x y = grind (arith, nat_tests)

-- amounts of a shift
pub shifts : (k : ℕ) (xs ys : List ℕ) (n : ℕ) → length ys ≡ n → ((j : ℕ) → j < n → get_or ys j 0 < k) → Each2 (λ (a b : ℕ). b < k) xs ys
shifts k xs ys n len small =
    Each2-of (λ a. Unit {0}) (λ b. b < k) (λ a b. b < k) (λ a b u h. h) xs ys (Each1-all (λ a. Unit {0}) (λ a. tt) xs)
    (Each1-from_get_or (λ b. b < k) ys 0 (λ j lt. small j (omega (arith, len))))

-- what a lane holds
pub lane_fits : (w : Width) (xs : List ℕ) (n j : ℕ) → (length xs ≡ n) × Each1 (Fits w) xs → j < n → get_or xs j 0 < 2 ^ bits w
lane_fits w xs n j fits lt = (Each1-get_or (Fits w) xs j 0 (omega (arith, fits.0)) fits.1).fits
