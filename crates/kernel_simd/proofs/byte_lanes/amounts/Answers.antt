use Rattle.std.proofs.Common.{◌∙◌, get_or, bit_and}
use Rattle.std.proofs.lemmas.Nat.{and_mask}
use Rattle.kernel_simd.proofs.Lanes.{lane_splat}
use Rattle.kernel_simd.proofs.byte_lanes.amounts.Goals as goal

pub returns : goal.returns
returns c j lt = lane_splat bit_and c.args.b 32 7 j c.fits-b.0 lt ∙ and_mask (get_or c.args.b j 0) 3
