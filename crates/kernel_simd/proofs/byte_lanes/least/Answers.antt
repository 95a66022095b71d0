use Rattle.std.proofs.Common.{◌∙◌, get_or, w8, ltb}
use Rattle.kernel_simd.proofs.Lanes.{lane_chosen, least_by_test}
use Rattle.kernel_simd.proofs.byte_lanes.least.Goals as goal

pub returns : goal.returns
returns c j lt =
    let a = c.args.a in
    let b = c.args.b in
    lane_chosen w8 ltb a b a b 32 j c.fits-a.0 c.fits-b.0 c.fits-a.0 c.fits-b.0 lt ∙ least_by_test (get_or a j 0) (get_or b j 0)
