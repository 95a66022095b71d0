use Rattle.std.proofs.Common.{◌≡◌, ◌==◌, ◌||◌, ◌+◌, ◌<◌, ◌∙◌, get_or, false, sym, ap, subst}
use Rattle.compile_timeline.proofs.Counting.{signalled_item, signalled_need}
use Rattle.compile_timeline.proofs.Latest.{has_there}
use Rattle.compile_timeline.proofs.Walks.{step_there}
use Rattle.compile_timeline.specs.Signals.{has_signal}
use Rattle.compile_timeline.specs.Steps.{queue_at}
use Rattle.compile_timeline.specs.declared.step.Step.TheVariants.{Item, Need}
use Rattle.compile_timeline.proofs.signals.is_signalled.Goals as goal
use Rattle.compile_timeline.proofs.signals.is_signalled.Goals.{In-Item}

signalled : (c : In-Item) → (get_or c.args.awaited.now c.args.at false || (get_or c.args.lasts.now c.in-Item.queue 0 == c.args.at + 1)) ≡ has_signal c.args.script.now c.args.count (queue_at c.args.script.now c.args.at) c.args.at
signalled c =
    signalled_item c.args.script.now c.args.count c.args.at c.in-Item.queue c.in-Item.item c.args.lasts.now (get_or c.args.awaited.now c.args.at false) c.requires.script c.requires.lasts
    (step_there c.args.script.now c.args.at c.index-script-at.result (Item c.in-Item.queue c.in-Item.item) c.requires.at c.index-script-at.is c.in-Item.is)
    (c.requires.awaited c.args.at)

pub bounds-lasts-queue : goal.bounds-lasts-queue
bounds-lasts-queue c =
    let e = step_there c.args.script.now c.args.at c.index-script-at.result (Item c.in-Item.queue c.in-Item.item) c.requires.at c.index-script-at.is c.in-Item.is in
    subst (λ n. c.in-Item.queue < n) (sym c.requires.lasts.size) (c.requires.script.items c.args.at c.in-Item.queue (has_there c.args.script.now c.in-Item.queue c.args.at c.in-Item.item e))

pub returns-then-awaited-at : goal.returns-then-awaited-at
returns-then-awaited-at c =
    c.if-awaited-at.true
    ∙ sym (ap (λ b. b || (get_or c.args.lasts.now c.in-Item.queue 0 == c.args.at + 1)) c.if-awaited-at.true)
    ∙ signalled (goal.at.returns-then-awaited-at c).In-Item

pub returns-else-awaited-at : goal.returns-else-awaited-at
returns-else-awaited-at c = ap (λ b. b || (get_or c.args.lasts.now c.in-Item.queue 0 == c.args.at + 1)) (sym c.if-awaited-at.false) ∙ signalled (goal.at.returns-else-awaited-at c).In-Item

pub returns-in-Need : goal.returns-in-Need
returns-in-Need c = sym (signalled_need c.args.script.now c.args.count c.args.at c.in-Need.queue c.in-Need.step (step_there c.args.script.now c.args.at c.index-script-at.result (Need c.in-Need.queue c.in-Need.step) c.requires.at c.index-script-at.is c.in-Need.is))
