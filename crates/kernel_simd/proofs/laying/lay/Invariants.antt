use Rattle.std.proofs.Common.{ℕ, ◌*◌, length}
use Rattle.base.specs.declared.shape.Texel.{Texel}
use Rattle.kernel_simd.specs.Internal.Blocks.{AreTexels, GivesBlocks, block_texels}
use Rattle.kernel_simd.proofs.laying.lay.Given as goal

abbrev pub invariant-loop-block : goal.invariant-loop-block
invariant-loop-block g l = (t : Texel) (p : ℕ → ℕ) → GivesBlocks (goal.F-post g l.f) t (length l.fn.out) p → AreTexels t l.out (block_texels t * l.block) p
