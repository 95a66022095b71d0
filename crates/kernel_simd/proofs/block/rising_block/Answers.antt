use Rattle.std.proofs.Common.{◌∙◌, arith}
use Rattle.std.proofs.lemmas.Nat.{mul-mod_second}
use Rattle.kernel.proofs.Numbers.{byte_is}
use Rattle.kernel_simd.proofs.block.rising_block.Goals as goal
use Rattle.kernel_simd.proofs.block.rising_block.Goals.{in-R8, in-R32}

pub returns : goal.returns
returns c =
    elim c.match-texel.branch [
      | in-R8 w ↦
          rw (w.result-is, w.in-R8.is) (λ j lt.
          byte_is w.rising_bytes.result j ∙ w.rising_bytes.ensures j lt ∙ omega (arith, mul-mod_second j c.args.step 256))
      | in-R32 w ↦ rw (w.result-is, w.in-R32.is) (λ j lt. w.block_of.ensures j lt ∙ w.rising_words.ensures j lt)
    ]
