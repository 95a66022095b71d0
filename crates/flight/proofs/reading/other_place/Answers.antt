use Rattle.std.proofs.Common.{sym, ◌∙◌, arith}
use Rattle.flight.proofs.Units.{other_found, other_on}
use Rattle.flight.proofs.reading.other_place.Goals as goal

pub returns-then-is_it : goal.returns-then-is_it
returns-then-is_it c = other_found c.args.unit c.args.frames.now c.args.persist.now c.loop-name.name-index _ c.loop-name.place c.other_unit-other.result _ c.loop-name-test.true c.name-item.is c.other_unit-other.ensures (sym c.is_it.ensures ∙ c.if-is_it.true) c.loop-name.invariant.so_far

pub loop-name-preserved : goal.loop-name-preserved
loop-name-preserved c =
    let few = c.loop-name.invariant.few in
    let one = c.counted-place.ensures.few in
    record {
      few = omega (arith, few, one);
      so_far = other_on c.args.unit c.args.frames.now c.args.persist.now c.loop-name.name-index _ c.loop-name.place c.counted-place.result c.other_unit-other.result _ c.loop-name-test.true c.name-item.is c.other_unit-other.ensures (sym c.is_it.ensures ∙ c.if-is_it.false) c.counted-place.ensures.count c.loop-name.invariant.so_far;
    }
