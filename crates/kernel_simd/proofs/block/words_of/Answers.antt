use Rattle.std.proofs.Common.{w8, refl}
use Rattle.std.proofs.lemmas.Simd.{get_or_wider, below_from_Fits}
use Rattle.base.specs.Texels.{texel_at}
use Rattle.kernel_simd.proofs.block.words_of.Goals as goal

pub returns : goal.returns
unfolding texel_at
returns c j lt = get_or_wider 256 4 4294967296 8 c.args.block j refl (below_from_Fits w8 c.args.block c.fits-block.1) lt
