use Rattle.std.proofs.Common.{sym, subst, ◌<◌, ◌+◌, ◌∙◌}
use Rattle.compile_timeline.proofs.Counting.{last_item_here, last_need_here}
use Rattle.compile_timeline.proofs.Latest.{has_there}
use Rattle.compile_timeline.proofs.Walks.{step_there}
use Rattle.compile_timeline.specs.Internal.Counts.{HasLasts}
use Rattle.compile_timeline.specs.declared.step.Step.TheVariants.{Item, Need}
use Rattle.compile_timeline.proofs.signals.last_items.Goals as goal
use Rattle.compile_timeline.proofs.signals.last_items.Goals.{in-Item, in-Need}

pub set-requires : goal.set-requires
set-requires c =
    let e = step_there c.args.script.now c.loop-at.at c.index-script-at.result (Item c.in-Item.queue c.in-Item.item) c.loop-at-test.true c.index-script-at.is c.in-Item.is in
    subst (λ n. c.in-Item.queue < n) (sym c.loop-at.invariant.size) (c.requires.items c.loop-at.at c.in-Item.queue (has_there c.args.script.now c.in-Item.queue c.loop-at.at c.in-Item.item e))

pub loop-at-preserved : goal.loop-at-preserved
loop-at-preserved c =
    elim c.match-script-at.branch [
      | in-Item w ↦
          let e = step_there c.args.script.now c.loop-at.at c.index-script-at.result (Item w.in-Item.queue w.in-Item.item) c.loop-at-test.true c.index-script-at.is w.in-Item.is in
          last_item_here c.args.script.now c.args.count c.loop-at.at w.in-Item.queue w.in-Item.item c.loop-at.lasts c.match-script-at.lasts c.loop-at.invariant e (w.lasts-is ∙ w.set.ensures)
      | in-Need w ↦
          let e = step_there c.args.script.now c.loop-at.at c.index-script-at.result (Need w.in-Need.queue w.in-Need.step) c.loop-at-test.true c.index-script-at.is w.in-Need.is in
          subst (HasLasts c.args.script.now c.args.count (c.loop-at.at + 1)) (sym w.lasts-is) (last_need_here c.args.script.now c.args.count c.loop-at.at w.in-Need.queue w.in-Need.step c.loop-at.lasts c.loop-at.invariant e)
    ]
