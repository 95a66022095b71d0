use Rattle.std.proofs.Common.{ℕ, ◌%◌, ◌^◌, ◌∙◌, ap, get_or}
use Rattle.base.specs.Kernels.{fun_of}
use Rattle.base.specs.Texels.{texel_at}
use Rattle.base.specs.declared.shape.Texel.TheVariants.{R32}
use Rattle.kernel.proofs.Numbers.{byte_is}
use Rattle.kernel_simd.proofs.block.fun_block.Goals as goal
use Rattle.kernel_simd.proofs.block.fun_block.Goals.{in-R8, in-R32}

pub returns : goal.returns
returns c =
    let a = c.args.a in
    let b = c.args.b in
    let fun = c.args.fun in
    elim c.match-texel.branch [
      | in-R8 w ↦
          rw (w.result-is, w.in-R8.is) (λ j lt. rw (byte_is w.fun_bytes.result j, byte_is a j, byte_is b j) (w.fun_bytes.ensures j lt))
      | in-R32 w ↦
          rw (w.result-is, w.in-R32.is) (λ j lt.
          w.block_of.ensures j lt
          ∙ w.fun_words.ensures j lt
          ∙ ap (λ (x : ℕ). fun_of R32 fun x (get_or w.words_of-second.result j 0) % 2 ^ 32) (w.words_of-first.ensures j lt)
          ∙ ap (λ (y : ℕ). fun_of R32 fun (texel_at R32 a j) y % 2 ^ 32) (w.words_of-second.ensures j lt))
    ]
