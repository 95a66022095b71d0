use Rattle.std.proofs.Common.{◌∙◌, refl, arith}
use Rattle.compile_lifetimes.specs.Internal.Lifetimes.{is_before}
use Rattle.compile_lifetimes.proofs.Adding.{none_yet, one_more, all_now}
use Rattle.compile_lifetimes.proofs.order.add_rows.Goals as goal
use Rattle.compile_heap.specs.Pairs.{has}
use Rattle.base_reach.specs.Pairs.{has as reaches}

pub loop-a-init : goal.loop-a-init
loop-a-init c = record {
  count = refl;
  has = λ x y lt-x lt-y. none_yet (λ z. is_before (reaches c.args.rows.now) c.args.groups.now c.args.lifetimes.now z y) x (has c.args.pairs.now x y);
}

pub loop-a-preserved : goal.loop-a-preserved
loop-a-preserved c = record {
  count = c.add_row.ensures.count ∙ c.loop-a.invariant.count;
  has = λ x y lt-x lt-y. one_more (λ z. is_before (reaches c.args.rows.now) c.args.groups.now c.args.lifetimes.now z y) x c.loop-a.a (has c.args.pairs.now x y) (has c.loop-a.pairs x y) (has c.add_row.new.pairs x y) (c.loop-a.invariant.has x y lt-x lt-y) (c.add_row.ensures.has x y lt-x lt-y);
}

pub returns-clause-has : goal.returns-clause-has
returns-clause-has c x y lt-x lt-y = c.loop-a.invariant.has x y lt-x lt-y ∙ all_now (λ z. is_before (reaches c.args.rows.now) c.args.groups.now c.args.lifetimes.now z y) x c.loop-a.a (has c.args.pairs.now x y) (omega (arith, lt-x, c.loop-a-test.false))
