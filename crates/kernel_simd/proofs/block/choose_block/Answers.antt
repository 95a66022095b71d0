use Rattle.std.proofs.Common.{◌≡◌, ◌==◌, ℕ, ◌%◌, ◌<◌, ◌∙◌, ap, get_or}
use Rattle.std.specs.Prelude.{if◌then◌else◌}
use Rattle.base.specs.Texels.{modulus, texel_at}
use Rattle.base.specs.declared.shape.Texel.TheVariants.{R32}
use Rattle.kernel.proofs.Numbers.{byte_is, whole_texel}
use Rattle.kernel_simd.specs.Internal.Blocks.{block_texels}
use Rattle.kernel_simd.proofs.Blocks.{block_fits}
use Rattle.kernel_simd.proofs.block.choose_block.Goals as goal
use Rattle.kernel_simd.proofs.block.choose_block.Goals.{in-R8, in-R32}

pub returns : goal.returns
returns c j lt =
    let t = c.args.texel in
    let mask = c.args.mask in
    let a = c.args.a in
    let b = c.args.b in
    let chosen = c.match-texel.result in
    let exact : (j : ℕ) → j < block_texels t → texel_at t chosen j ≡ (if texel_at t mask j == 0 then texel_at t b j else texel_at t a j) =
    elim c.match-texel.branch [
      | in-R8 w ↦
          rw (w.result-is, w.in-R8.is) (λ j lt.
          rw (byte_is w.choose_bytes.result j, byte_is mask j, byte_is a j, byte_is b j) (w.choose_bytes.ensures j lt))
      | in-R32 w ↦
          rw (w.result-is, w.in-R32.is) (λ j lt.
          let m = w.words_of-test.result in
          let x = w.words_of-own.result in
          let y = w.words_of-other.result in
          w.block_of.ensures j lt
          ∙ w.choose_words.ensures j lt
          ∙ ap (λ (n : ℕ). if n == 0 then get_or y j 0 else get_or x j 0) (w.words_of-test.ensures j lt)
          ∙ ap (λ (n : ℕ). if texel_at R32 mask j == 0 then get_or y j 0 else n) (w.words_of-own.ensures j lt)
          ∙ ap (λ (n : ℕ). if texel_at R32 mask j == 0 then n else texel_at R32 a j) (w.words_of-other.ensures j lt))
    ] in
    whole_texel t chosen j (block_fits chosen c.match-texel.auto.result.1) ∙ ap (λ (n : ℕ). n % modulus t) (exact j lt)
