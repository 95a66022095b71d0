-- One more place in a word.
use Rattle.std.proofs.Common.{◌≡◌, ◌≢◌, ℕ, ◌*◌, ◌%◌, ◌^◌, ◌<◌, ◌==◌, true, ap, w64}
use Rattle.std.specs.Prelude.{bit_or}
use Rattle.std.proofs.lemmas.Nat.Bits.{bit_at_set_same, bit_at_set_other}
use Rattle.base_first.specs.Bits.{bit}

pub set_same : (n k : ℕ) → k < 64 → bit (bit_or n (1 * 2 ^ k % 2 ^ 64)) k ≡ true
set_same n k lt = ap (λ b. b == 1) (bit_at_set_same w64 n k lt)

pub set_other : (n k i : ℕ) → k < 64 → i ≢ k → bit (bit_or n (1 * 2 ^ k % 2 ^ 64)) i ≡ bit n i
set_other n k i lt ne = ap (λ b. b == 1) (bit_at_set_other w64 n k lt i ne)
