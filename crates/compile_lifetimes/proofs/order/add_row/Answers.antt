use Rattle.std.proofs.Common.{◌==◌, ◌&&◌, ◌||◌, ap, ◌∙◌, refl, arith, rules}
use Rattle.compile_lifetimes.specs.Internal.Lifetimes.{is_before}
use Rattle.compile_lifetimes.proofs.Adding.{none_yet, one_more, all_now}
use Rattle.compile_lifetimes.proofs.order.add_row.Goals as goal
use Rattle.compile_heap.specs.Pairs.{has}
use Rattle.base_reach.specs.Pairs.{has as reaches}

pub loop-b-init : goal.loop-b-init
loop-b-init c = record {
  count = refl;
  has = λ x y lt-x lt-y. none_yet (λ z. x == c.args.a && is_before (reaches c.args.rows.now) c.args.groups.now c.args.lifetimes.now c.args.a z) y (has c.args.pairs.now x y);
}

pub loop-b-preserved : goal.loop-b-preserved
loop-b-preserved c =
    let b = c.loop-b.b in
    record {
      count = c.set_if.ensures.count ∙ c.loop-b.invariant.count;
      has = λ x y lt-x lt-y.
          one_more (λ z. x == c.args.a && is_before (reaches c.args.rows.now) c.args.groups.now c.args.lifetimes.now c.args.a z) y b _ _ _ (c.loop-b.invariant.has x y lt-x lt-y)
          (c.set_if.ensures.has x y (search rules) (search rules) ∙ ap (λ w. (y == b && (x == c.args.a && w)) || has c.loop-b.pairs x y) c.is_before-wanted.ensures);
    }

pub returns-clause-has : goal.returns-clause-has
returns-clause-has c x y lt-x lt-y = c.loop-b.invariant.has x y lt-x lt-y ∙ all_now (λ z. x == c.args.a && is_before (reaches c.args.rows.now) c.args.groups.now c.args.lifetimes.now c.args.a z) y c.loop-b.b (has c.args.pairs.now x y) (omega (arith, lt-y, c.loop-b-test.false))
