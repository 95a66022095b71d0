use Rattle.std.proofs.Common.{ℕ, ◌/◌, ◌^◌}
use Rattle.kernel_simd.proofs.Lanes.{lane, shifts}
use Rattle.kernel_simd.proofs.byte_lanes.down.Goals as goal

pub overflow_shr-result : goal.overflow_shr-result
overflow_shr-result c = shifts 8 c.args.a c.args.by 32 c.fits-by.0 c.requires

pub returns : goal.returns
returns c j lt = lane (λ (a b : ℕ). a / 2 ^ b) c.args.a c.args.by 32 j c.fits-a.0 c.fits-by.0 lt
