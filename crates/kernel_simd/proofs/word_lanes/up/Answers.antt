use Rattle.std.proofs.Common.{ℕ, ◌*◌, ◌%◌, ◌^◌}
use Rattle.kernel_simd.proofs.Lanes.{lane, shifts}
use Rattle.kernel_simd.proofs.word_lanes.up.Goals as goal

pub overflow_shl-result : goal.overflow_shl-result
overflow_shl-result c = shifts 32 c.args.a c.args.by 8 c.fits-by.0 c.requires

pub returns : goal.returns
returns c j lt = lane (λ (a b : ℕ). a * 2 ^ b % 2 ^ 32) c.args.a c.args.by 8 j c.fits-a.0 c.fits-by.0 lt
