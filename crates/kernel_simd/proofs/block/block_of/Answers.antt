use Rattle.kernel_simd.proofs.Blocks.{narrowed}
use Rattle.kernel_simd.proofs.block.block_of.Goals as goal

pub returns : goal.returns
returns c j lt = narrowed c.args.words j c.fits-words lt
