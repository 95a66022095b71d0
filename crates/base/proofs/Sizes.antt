-- Bytes that fit 67 bits.
use Rattle.std.proofs.Common.{ℕ, ◌*◌, ◌<◌, ◌≤◌, ◌^◌, arith}
use Rattle.std.proofs.lemmas.Nat.{mul-lt}

-- so many texels of at most four bytes
pub image_fits : (w h t : ℕ) → w < 2 ^ 32 → h < 2 ^ 32 → t ≤ 4 → w * h * t < 2 ^ 67
image_fits w h t few-w few-h few-t =
    let small : t < 8 = omega arith in
    let all : w * h * t < 2 ^ 32 * 2 ^ 32 * 8 = mul-lt (w * h) t (2 ^ 32 * 2 ^ 32) 8 (mul-lt w h (2 ^ 32) (2 ^ 32) few-w few-h) small in
    omega arith
