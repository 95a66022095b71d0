-- Blocks of 32 bytes, and the texels in them.
use Rattle.std.specs.Prelude.{◌≡◌, ◌==◌, ℕ, Bool, true, false, List, ◌+◌, ◌*◌, ◌/◌, ◌%◌, ◌<◌, ◌≤◌, length, if◌then◌else◌}
use Rattle.base.specs.Kernels.{fun_of}
use Rattle.base.specs.Shapes.{texel_bytes}
use Rattle.base.specs.Texels.{modulus, texel_at}
use Rattle.base.specs.declared.op.Fun.{Fun}
use Rattle.base.specs.declared.shape.Texel.{Texel}
use Rattle.base.specs.declared.shape.Texel.TheVariants.{R8, R32}

-- texels of a block
abbrev pub block_texels : Texel → ℕ
block_texels R8 = 32
block_texels R32 = 8

-- a place among n bytes from which on there is a whole block, or at the last one fewer bytes, if any
abbrev pub IsPlace : ℕ → Bool → ℕ → Type 0
IsPlace at is_last n = (at ≤ n) × (is_last ≡ false → at + 32 ≤ n) × (is_last ≡ true → n < at + 32)

-- the first n texels are the numbers of p, cut
abbrev pub AreTexels : Texel → List ℕ → ℕ → (ℕ → ℕ) → Type 0
AreTexels t bytes n p = (k : ℕ) → k < n → texel_at t bytes k ≡ p k % modulus t

-- so are all texels that stand where these bytes stood
abbrev pub Fills : Texel → List ℕ → List ℕ → (ℕ → ℕ) → Type 0
Fills t out bytes p = AreTexels t bytes (length out / texel_bytes t) p

-- so are those of the block that a closure gives at each place among n bytes
abbrev pub GivesBlocks : (ℕ → Bool → List ℕ → Type 0) → Texel → ℕ → (ℕ → ℕ) → Type 0
GivesBlocks post t n p = (b : ℕ) (is_last : Bool) (block : List ℕ) → IsPlace (32 * b) is_last n → post (32 * b) is_last block → AreTexels t block (block_texels t) (λ j. p (block_texels t * b + j))

-- the texels of block n of some bytes
abbrev pub block_at : Texel → ℕ → List ℕ → ℕ → ℕ
block_at t n bytes j = texel_at t bytes (block_texels t * n + j)

-- a function of two rows of texels, and a choice between two
abbrev pub combined : Texel → Fun → (ℕ → ℕ) → (ℕ → ℕ) → ℕ → ℕ
combined t fun a b k = fun_of t fun (a k) (b k)

abbrev pub selected : (ℕ → ℕ) → (ℕ → ℕ) → (ℕ → ℕ) → ℕ → ℕ
selected mask a b k = if mask k == 0 then b k else a k
