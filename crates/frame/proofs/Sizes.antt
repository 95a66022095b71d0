-- Bytes that fit 128 bits.
use Rattle.std.proofs.Common.{ℕ, ◌*◌, ◌<◌, ◌^◌, arith}
use Rattle.std.proofs.lemmas.Nat.{mul-lt}

-- so many layers of so many bytes
pub product_fits : (layers bytes : ℕ) → layers < 2 ^ 32 → bytes < 2 ^ 67 → layers * bytes < 2 ^ 128
product_fits layers bytes few-layers few-bytes =
    let all : layers * bytes < 2 ^ 32 * 2 ^ 67 = mul-lt layers bytes (2 ^ 32) (2 ^ 67) few-layers few-bytes in
    omega arith
