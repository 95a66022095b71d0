use Rattle.std.proofs.Common.{◌≡◌, ◌∙◌, ◌<◌, Some, false, length, sym, ap, subst, arith}
use Rattle.std.specs.Prelude.{slice_get}
use Rattle.std.proofs.lemmas.Bool.{ne_eqb}
use Rattle.std.proofs.lemmas.Result.{on_ok_weaker}
use Rattle.compile_timeline.proofs.Submitting.{noted_size, added_item, added_none, closed_item, closed_none}
use Rattle.compile_timeline.proofs.Walks.{step_there, has_here, knows_below}
use Rattle.compile_timeline.specs.Steps.{has_item, is_item}
use Rattle.compile_timeline.specs.declared.step.Step.TheVariants.{Item}
use Rattle.compile_timeline.proofs.queues.submit_step.Goals as goal
use Rattle.compile_timeline.proofs.queues.submit_step.Goals.{Start, Then-own-queue, Else-own-queue, In_default}

size : (c : Start) → length c.args.signals.now.values ≡ length c.args.script.now
size c = ap (λ s. length s.values) c.requires.signals ∙ noted_size c.args.script.now c.args.count

item : (c : Then-own-queue) → slice_get c.args.script.now c.args.at ≡ Some (Item c.args.queue c.in-Item.item)
item c = step_there c.args.script.now c.args.at c.index-script-at.result (Item c.args.queue c.in-Item.item) c.requires.at c.index-script-at.is (c.in-Item.is ∙ ap (λ q. Item q c.in-Item.item) c.if-own-queue.true)

other : (c : Else-own-queue) → has_item c.args.script.now c.args.queue c.args.at ≡ false
other c = has_here c.args.script.now c.args.queue c.args.at c.index-script-at.result c.requires.at c.index-script-at.is ∙ ap (is_item c.args.queue) c.in-Item.is ∙ ne_eqb c.in-Item.own c.args.queue c.if-own-queue.false

need : (c : In_default) → has_item c.args.script.now c.args.queue c.args.at ≡ false
need c = has_here c.args.script.now c.args.queue c.args.at c.index-script-at.result c.requires.at c.index-script-at.is ∙ ap (is_item c.args.queue) c.in_default.is

pub submit-requires-clause-below : goal.submit-requires-clause-below
submit-requires-clause-below c =
    let at = c.requires.at in
    let e = size (goal.at.submit-requires-clause-below c).Start in
    knows_below c.args.script.now c.args.queue c.args.at (length c.args.signals.now.values) c.args.needs.now c.requires.knows (omega (arith, at, e))

pub submit-requires-clause-at : goal.submit-requires-clause-at
submit-requires-clause-at c = subst (λ n. c.args.at < n) (sym (size (goal.at.submit-requires-clause-at c).Start)) c.requires.at

pub returns-in-Item-clause-added : goal.returns-in-Item-clause-added
returns-in-Item-clause-added c =
    let e = item (goal.at.returns-in-Item-clause-added c).Then-own-queue in
    on_ok_weaker c.submit.result (added_item c.args.script.now c.args.queue c.args.at c.args.count c.args.needs.now c.args.signals.now c.in-Item.item c.args.submission.now c.submit.new.self c.requires.knows c.requires.count c.requires.signals e) c.submit.ensures.added

pub returns-in-Item-clause-closed : goal.returns-in-Item-clause-closed
returns-in-Item-clause-closed c =
    let e = item (goal.at.returns-in-Item-clause-closed c).Then-own-queue in
    on_ok_weaker c.submit.result (closed_item c.args.script.now c.args.queue c.args.at c.args.count c.args.signals.now c.in-Item.item c.submit.new.self c.requires.signals e) c.submit.ensures.closed

pub returns-in_default-clause-added : goal.returns-in_default-clause-added
returns-in_default-clause-added c = added_none c.args.script.now c.args.queue c.args.at c.args.count c.args.submission.now (other (goal.at.returns-in_default-clause-added c).Else-own-queue)

pub returns-in_default-clause-closed : goal.returns-in_default-clause-closed
returns-in_default-clause-closed c = closed_none c.args.script.now c.args.queue c.args.at c.args.count c.args.submission.now (other (goal.at.returns-in_default-clause-closed c).Else-own-queue) c.requires.closed

pub returns-in_default-2-clause-added : goal.returns-in_default-2-clause-added
returns-in_default-2-clause-added c = added_none c.args.script.now c.args.queue c.args.at c.args.count c.args.submission.now (need (goal.at.returns-in_default-2-clause-added c).In_default)

pub returns-in_default-2-clause-closed : goal.returns-in_default-2-clause-closed
returns-in_default-2-clause-closed c = closed_none c.args.script.now c.args.queue c.args.at c.args.count c.args.submission.now (need (goal.at.returns-in_default-2-clause-closed c).In_default) c.requires.closed
