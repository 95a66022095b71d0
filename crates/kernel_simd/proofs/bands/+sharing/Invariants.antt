use Rattle.std.proofs.Common.{◌+◌, ◌*◌}
use Rattle.kernel_simd.proofs.bands.+sharing.Given as goal

abbrev pub decreases-share_out : goal.decreases-share_out
decreases-share_out g l = 4 * l.bands

abbrev pub decreases-both : goal.decreases-both
decreases-both g l = 4 * l.bands + 2

abbrev pub decreases-both-lower : goal.decreases-both-lower
decreases-both-lower g l = 4 * l.bands + 1
