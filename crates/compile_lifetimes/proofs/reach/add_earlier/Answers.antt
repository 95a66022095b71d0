use Rattle.std.proofs.Common.{◌≡◌, ◌==◌, ◌&&◌, ◌||◌, refl, subst, ◌∙◌, rules}
use Rattle.compile_lifetimes.specs.Internal.Leading.{queue_in, leads_to}
use Rattle.compile_lifetimes.proofs.Adding.{none_yet, one_more}
use Rattle.compile_lifetimes.proofs.reach.add_earlier.Goals as goal
use Rattle.base_reach.specs.Pairs.{has}

pub loop-from-init : goal.loop-from-init
loop-from-init c = record {
  count = refl;
  has = λ x y. none_yet (λ z. y == c.args.to && queue_in c.args.commands.now z == queue_in c.args.commands.now c.args.to) x (has c.args.rows.now x y);
}

pub loop-from-preserved : goal.loop-from-preserved
loop-from-preserved c = record {
  count = c.add_on_queue.ensures.count ∙ c.loop-from.invariant.count;
  has = λ x y. one_more (λ z. y == c.args.to && queue_in c.args.commands.now z == queue_in c.args.commands.now c.args.to) x c.loop-from.from _ _ _ (c.loop-from.invariant.has x y) (c.add_on_queue.ensures.has x y);
}

pub returns-clause-has : goal.returns-clause-has
returns-clause-has c x y =
    let end : c.loop-from.from ≡ c.args.to = search rules in
    subst (λ k. has c.loop-from.rows x y ≡ (leads_to c.args.commands.now k c.args.to x y || has c.args.rows.now x y)) end (c.loop-from.invariant.has x y)
