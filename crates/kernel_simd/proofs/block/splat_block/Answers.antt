use Rattle.std.proofs.Common.{◌%◌, ◌∙◌, arith}
use Rattle.std.specs.Prelude.{replicate}
use Rattle.std.proofs.lemmas.Simd.{get_or-replicate}
use Rattle.kernel.proofs.Numbers.{byte_is}
use Rattle.kernel_simd.proofs.block.splat_block.Goals as goal
use Rattle.kernel_simd.proofs.block.splat_block.Goals.{in-R8, in-R32}

pub returns : goal.returns
returns c =
    let value = c.args.value in
    elim c.match-texel.branch [
      | in-R8 w ↦ rw (w.result-is, w.in-R8.is) (λ j lt. byte_is (replicate 32 (value % 256)) j ∙ get_or-replicate 32 j (value % 256) 0 lt)
      | in-R32 w ↦ rw (w.result-is, w.in-R32.is) (λ j lt. w.block_of.ensures j lt ∙ get_or-replicate 8 j value 0 lt ∙ omega (arith, c.ranges.value.fits))
    ]
