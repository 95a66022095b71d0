use Rattle.std.proofs.Common.{refl}
use Rattle.std.specs.Prelude.{replicate}
use Rattle.kernel_simd.proofs.Blocks.{padded_at}
use Rattle.kernel_simd.proofs.block.padded.Goals as goal

pub returns : goal.returns
returns c k lt = rw c.copy_from_slice.ensures.after (padded_at c.args.bytes.now (replicate 32 0) 32 k refl)
