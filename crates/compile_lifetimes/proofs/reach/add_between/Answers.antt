use Rattle.std.proofs.Common.{◌<◌, get_or, sym, subst, ◌∙◌}
use Rattle.compile_groups.specs.Needs.{has_command}
use Rattle.compile_lifetimes.proofs.Adding.{between_step}
use Rattle.compile_lifetimes.proofs.reach.add_between.Goals as goal

pub add_from-requires : goal.add_from-requires
add_from-requires c = λ m d lt.
    let forward = c.requires c.loop-u.u-index _ c.loop-u-test.true m d lt in
    (forward.0, subst (λ n. (get_or c.args.next.now m d).command < n) (sym c.loop-u.invariant.count) forward.1)

pub loop-u-preserved : goal.loop-u-preserved
loop-u-preserved c = record {
  count = c.add_from.ensures.count ∙ c.loop-u.invariant.count;
  has = λ x y. between_step c.args.uses.now c.loop-u.u-index _ x (has_command y c.args.next.now) _ _ _ c.loop-u-test.true (c.loop-u.invariant.has x y) (c.add_from.ensures.has x y);
}
