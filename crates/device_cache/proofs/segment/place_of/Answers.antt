use Rattle.std.proofs.Common.{◌≡◌, arith, sym}
use Rattle.device_cache.proofs.Placing.{place_is}
use Rattle.device_cache.proofs.segment.place_of.Goals as goal

pub returns-clause-place : goal.returns-clause-place
returns-clause-place c =
    let i = c.loop-low.invariant in
    sym (place_is c.args.segments.now c.loop-low.low c.args.at (omega (arith, i.order, i.inside)) i.below (λ lt. let e : c.loop-low.high ≡ c.loop-low.low = omega arith in rw (← e) (i.above (omega (arith, lt)))))
