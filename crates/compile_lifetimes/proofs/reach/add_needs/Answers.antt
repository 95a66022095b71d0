use Rattle.std.proofs.Common.{◌≡◌, ◌||◌, length, sym, ap, subst, ◌∙◌, rules}
use Rattle.std.specs.List.{list_any, range_with_len}
use Rattle.compile_lifetimes.specs.Internal.Leading.{needs_by}
use Rattle.compile_lifetimes.proofs.Adding.{needs_more, any_range}
use Rattle.compile_lifetimes.proofs.reach.add_needs.Goals as goal
use Rattle.base_reach.specs.Pairs.{has}

pub loop-g-preserved : goal.loop-g-preserved
loop-g-preserved c =
    let G = c.args.groups.now in
    let g = c.loop-g.g in
    record {
      count = c.add_needs_by.ensures.count ∙ c.loop-g.invariant.count;
      has = λ x y.
          c.add_needs_by.ensures.has x y
          ∙ ap (λ b. needs_by G x y g || b) (c.loop-g.invariant.has x y)
          ∙ needs_more (needs_by G x y g) (list_any (needs_by G x y) (range_with_len 0 g)) (has c.args.rows.now x y)
          ∙ ap (λ b. b || has c.args.rows.now x y) (sym (any_range (needs_by G x y) g));
    }

pub returns-clause-has : goal.returns-clause-has
returns-clause-has c x y =
    let G = c.args.groups.now in
    let end : c.loop-g.g ≡ length G.groups = search rules in
    subst (λ k. has c.loop-g.rows x y ≡ (list_any (needs_by G x y) (range_with_len 0 k) || has c.args.rows.now x y)) end (c.loop-g.invariant.has x y)
