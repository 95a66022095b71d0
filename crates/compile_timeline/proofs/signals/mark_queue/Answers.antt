use Rattle.std.proofs.Common.{◌∙◌, ◌||◌, false, length, get_or, sym, ap, arith}
use Rattle.compile_timeline.proofs.Walks.{knows_below, has_here, marked_item, marked_none}
use Rattle.compile_timeline.proofs.signals.mark_queue.Goals as goal
use Rattle.compile_timeline.proofs.signals.mark_queue.Goals.{then-is_item, else-is_item}

pub mark-requires-clause-below : goal.mark-requires-clause-below
mark-requires-clause-below c =
    let size = c.loop-at.invariant.size in
    let test = c.loop-at-test.true in
    knows_below c.args.script.now c.args.queue c.loop-at.at (length c.loop-at.awaited) c.loop-at.needs c.loop-at.invariant.knows (omega (arith, size, test))

pub loop-at-preserved : goal.loop-at-preserved
loop-at-preserved c = record {
  size =
      elim c.if-is_item.branch [
        | then-is_item w ↦ ap length w.awaited-is ∙ w.mark.ensures.size ∙ c.loop-at.invariant.size
        | else-is_item w ↦ ap length w.awaited-is ∙ c.loop-at.invariant.size
      ];
  count = c.pass.ensures.size ∙ c.loop-at.invariant.count;
  knows = c.pass.ensures.knows;
  marked = λ j.
      elim c.if-is_item.branch [
        | then-is_item w ↦
            marked_item c.args.script.now c.args.queue c.loop-at.at c.args.count j c.loop-at.needs (get_or c.loop-at.awaited j false) (get_or c.if-is_item.awaited j false) (get_or c.args.awaited.now j false) c.loop-at.invariant.knows (sym c.loop-at.invariant.count)
            (has_here c.args.script.now c.args.queue c.loop-at.at c.index-script-at.result c.loop-at-test.true c.index-script-at.is ∙ sym c.is_item.ensures ∙ w.if-is_item.true)
            (c.loop-at.invariant.marked j)
            (ap (λ l. get_or l j false) w.awaited-is ∙ w.mark.ensures.marked j)
        | else-is_item w ↦
            ap (λ l. get_or l j false) w.awaited-is ∙ c.loop-at.invariant.marked j
            ∙ ap (λ b. b || get_or c.args.awaited.now j false) (sym (marked_none c.args.script.now c.args.queue c.loop-at.at c.args.count j (get_or c.args.awaited.now j false)
            (has_here c.args.script.now c.args.queue c.loop-at.at c.index-script-at.result c.loop-at-test.true c.index-script-at.is ∙ sym c.is_item.ensures ∙ w.if-is_item.false)))
      ];
}
