use Rattle.std.proofs.Common.{arith}
use Rattle.kernel_simd.proofs.bands.paint_band.Goals as goal

pub returns : goal.returns
returns g c p paints = paints c.args.first c.args.count _ _ (omega arith, omega arith, c.requires.size) c.f.ensures
