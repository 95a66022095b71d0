use Rattle.std.proofs.Common.{◌+◌, subst, sym}
use Rattle.compile_lifetimes.specs.Internal.Lifetimes.{AreLifetimes}
use Rattle.compile_lifetimes.proofs.Sides.{placed_touched, one_more}
use Rattle.compile_lifetimes.proofs.lifetime.lifetimes_of.Goals as goal

pub lifetime_of-requires : goal.lifetime_of-requires
lifetime_of-requires c = placed_touched c.args.groups.now c.placed-placed.result.now c.loop-unit.unit-index c.placed-placed.ensures c.loop-unit-test.true

pub loop-unit-preserved : goal.loop-unit-preserved
loop-unit-preserved c =
    let G = c.args.groups.now in
    let k = c.loop-unit.unit-index in
    subst (AreLifetimes G (k + 1)) (sym c.in_ok-push.ensures.ok) (one_more G c.placed-placed.result.now k c.loop-unit.lifetimes c.lifetime_of.result c.placed-placed.ensures c.loop-unit.invariant c.lifetime_of.ensures)
