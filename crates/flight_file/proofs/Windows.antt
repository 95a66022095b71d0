-- Which frames are in which window.
use Rattle.std.proofs.Common.{◌≡◌, ◌+◌, ◌-◌, ◌*◌, ◌/◌, ◌%◌, ◌<◌, ◌≤◌, ℕ, ap, ◌∙◌, arith}
use Rattle.std.proofs.lemmas.Nat.{div-add-mod', div-mul-add, mod_below}

pub in_window : (i w d : ℕ) → w * d ≤ i → i < w * d + d → i / d ≡ w
in_window i w d from to =
    let e : i ≡ w * d + (i - w * d) = omega (arith, from) in
    ap (λ n. n / d) e ∙ div-mul-add w d (i - w * d) (omega (arith, from, to))

-- where the next window begins
pub next_window : (w d : ℕ) → w * d + d ≡ (w + 1) * d
next_window w d = grind arith

-- all frames are in windows
pub all_windows : (n d w : ℕ) → 1 ≤ d → w ≡ (n + (d - 1)) / d → n ≤ w * d
all_windows n d w deep count =
    let q : ℕ = (n + (d - 1)) / d in
    let two : q * d + (n + (d - 1)) % d ≡ n + (d - 1) = div-add-mod' (n + (d - 1)) d in
    let less : (n + (d - 1)) % d < d = mod_below (n + (d - 1)) d deep in
    let same : w * d ≡ q * d = ap (λ v. v * d) count in
    omega (arith, two, less, same, deep)
