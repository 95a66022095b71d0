-- Numbers modulo those of texels.
use Rattle.std.proofs.Common.{◌≡◌, ℕ, ◌%◌, ◌^◌, arith}
use Rattle.base.specs.Texels.{modulus}
use Rattle.base.specs.declared.shape.Texel.{Texel}
use Rattle.base.specs.declared.shape.Texel.TheVariants.{R8, R32}

-- 32 bits hold what any texel keeps
pub kept : (t : Texel) (n : ℕ) → n % 2 ^ 32 % modulus t ≡ n % modulus t
kept R8 n = omega arith
kept R32 n = omega arith

-- what is cut off a texel does not come back
pub cut_twice : (t : Texel) (n : ℕ) → n % modulus t % modulus t ≡ n % modulus t
cut_twice R8 n = omega arith
cut_twice R32 n = omega arith

pub kept_twice : (t : Texel) (m n : ℕ) → m ≡ n % 2 ^ 32 → m % modulus t ≡ n % modulus t
kept_twice R8 m n e = omega arith
kept_twice R32 m n e = omega arith
