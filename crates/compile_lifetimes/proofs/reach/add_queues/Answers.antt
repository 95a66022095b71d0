use Rattle.std.proofs.Common.{◌<◌, ◌≤◌, ◌||◌, ◌==◌, nat_lt, length, refl, ap, subst, ◌∙◌}
use Rattle.std.proofs.lemmas.Bool.{lt-ltb}
use Rattle.compile_lifetimes.specs.Internal.Leading.{queue_in, comes_later}
use Rattle.compile_lifetimes.proofs.Adding.{none_yet, one_more, ends_at, all_told}
use Rattle.compile_lifetimes.proofs.reach.add_queues.Goals as goal
use Rattle.base_reach.specs.Pairs.{has}

pub loop-to-init : goal.loop-to-init
loop-to-init c = record { count = refl; has = λ x y. none_yet (comes_later c.args.commands.now x) y (has c.args.rows.now x y) }

pub loop-to-preserved : goal.loop-to-preserved
loop-to-preserved c =
    let list = c.args.commands.now in
    let to = c.loop-to.to in
    let below : to < length list = subst (λ n. to < n) c.requires.commands c.loop-to-test.true in
    record {
      count = c.add_earlier.ensures.count ∙ c.loop-to.invariant.count;
      has = λ x y. one_more (comes_later list x) y to _ _ _ (c.loop-to.invariant.has x y) (c.add_earlier.ensures.has x y ∙ ap (λ b. b || has c.loop-to.rows x y) (ends_at (nat_lt x to) (y == to) (queue_in list x == queue_in list to) (nat_lt to (length list)) (lt-ltb to (length list) below)));
    }

pub returns-clause-has : goal.returns-clause-has
returns-clause-has c x y =
    let over : length c.args.commands.now ≤ c.loop-to.to = subst (λ n. n ≤ c.loop-to.to) c.requires.commands c.loop-to-test.false in
    all_told c.args.commands.now x y c.loop-to.to (has c.args.rows.now x y) (has c.loop-to.rows x y) over (c.loop-to.invariant.has x y)
