use Rattle.std.proofs.Common.{◌<◌, ◌≤◌, ◌+◌, ℕ, List, [], ◌∷◌, length, get_or, ap, subst, sym, ◌∙◌}
use Rattle.std.specs.List.{All}
use Rattle.std.proofs.lemmas.List.Sums.{fold_more}
use Rattle.compile_bound.proofs.Inserted.{joined_all, joined_length}
use Rattle.compile_bound.proofs.choices.choice_of.Goals as goal
use Rattle.compile_bound.specs.Choices.{joined}
use Rattle.compile_heap.specs.Pairs.{has}

pub loop-s-preserved : goal.loop-s-preserved
loop-s-preserved c =
    let ordered = has c.args.ordered.now in
    let order = c.args.order.now in
    let i = c.loop-s.s-index in
    let s : ℕ = get_or order i 0 in
    let old : List ℕ = c.loop-s.chosen.items in
    let is = c.in_ok-join.ensures in
    record {
      choice = is ∙ ap (λ list. joined ordered list s) c.loop-s.invariant.choice ∙ sym (fold_more (joined ordered) (c.args.r ∷ []) order i 0 c.loop-s-test.true);
      within = subst (All (λ r. r < c.args.ordered.now.count)) (sym is) (joined_all ordered c.args.ordered.now.count s old (c.requires.order i 0 c.loop-s-test.true) c.loop-s.invariant.within);
      count = subst (λ (list : List ℕ). length list ≤ (i + 1) + 1) (sym is) (joined_length ordered s (i + 1) old c.loop-s.invariant.count);
    }
