use Rattle.std.proofs.Common.{◌+◌, get_or, subst, ◌≡◌, ℕ}
use Rattle.kernel_simd.proofs.Blocks.{texel_of_block}
use Rattle.kernel_simd.proofs.block.load.Goals as goal

pub returns : goal.returns
returns c t b j at lt =
    texel_of_block t c.bytes_from.result c.args.bytes.now b j lt (λ k within.
    let P : ℕ → Type 0 = λ n. get_or c.bytes_from.result k 0 ≡ get_or c.args.bytes.now (n + k) 0 in
    subst P at (c.bytes_from.ensures k within))
