use Rattle.std.proofs.Common.{◌∙◌}
use Rattle.compile_lifetimes.proofs.Adding.{from_step}
use Rattle.compile_lifetimes.proofs.reach.add_from.Goals as goal

pub loop-v-preserved : goal.loop-v-preserved
loop-v-preserved c = record {
  count = c.set.ensures.count ∙ c.loop-v.invariant.count;
  has = λ x y. from_step c.args.next.now c.loop-v.v-index _ c.args.from x y _ _ _ c.loop-v-test.true (c.loop-v.invariant.has x y) (c.set.ensures.has x y);
}
