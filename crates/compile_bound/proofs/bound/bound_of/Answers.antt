use Rattle.std.proofs.Common.{◌+◌, sym, subst}
use Rattle.compile_bound.proofs.Best.{best_more, choice_shown, either_shown, first_best, shown_holds}
use Rattle.compile_bound.proofs.bound.bound_of.Goals as goal
use Rattle.compile_bound.specs.Bounds.{IsBest, IsShown}
use Rattle.compile_heap.specs.Pairs.{has}

pub loop-r-init : goal.loop-r-init
loop-r-init c =
    let sizes = c.args.sizes.now in
    let ordered = has c.args.ordered.now in
    record {
      best = first_best sizes ordered c.in_ok-best.best c.in_ok-best.ensures;
      shown = choice_shown sizes ordered 0 c.in_ok-best.best c.in_ok-best.ensures;
    }

pub loop-r-preserved : goal.loop-r-preserved
loop-r-preserved c =
    let sizes = c.args.sizes.now in
    let ordered = has c.args.ordered.now in
    let old = c.loop-r.invariant in
    let next = c.in_ok-next.next in
    let is = c.greater-best.ensures in
    record {
      best = subst (IsBest sizes ordered (c.loop-r.r + 1)) (sym is) (best_more sizes ordered c.loop-r.r c.loop-r.best next c.loop-r.auto.r old.best c.in_ok-next.ensures);
      shown = subst (IsShown sizes ordered) (sym is) (either_shown sizes ordered c.loop-r.best next old.shown (choice_shown sizes ordered c.loop-r.r next c.in_ok-next.ensures));
    }

pub returns-clause-holds : goal.returns-clause-holds
returns-clause-holds c = shown_holds c.args.sizes.now (has c.args.ordered.now) c.loop-r.best c.loop-r.invariant.shown
