use Rattle.std.proofs.Common.{◌<◌, length, rules, subst, sym, ◌∙◌}
use Rattle.std.specs.List.{All}
use Rattle.compile_queues.specs.Choice.{Costs, IsPick}
use Rattle.compile_queues.specs.Cost.{IsFrameCost}
use Rattle.compile_queues.specs.Queues.{on_queues}
use Rattle.compile_queues.proofs.Picking.{found_below, found_first, found_more, given_all, given_count}
use Rattle.compile_queues.proofs.choice.picked.Goals as goal
use Rattle.frame.specs.Numbered.{numbered}

pub cost_on-requires-clause-count : goal.cost_on-requires-clause-count
cost_on-requires-clause-count c = given_count (numbered c.args.frame.now) c.deref.result.now (c.deref.ensures ∙ c.in_ok-queues.ensures)

pub cost_on-requires-clause-below : goal.cost_on-requires-clause-below
cost_on-requires-clause-below c = given_all (numbered c.args.frame.now) c.deref.result.now c.frame-good.ensures.numbers (c.deref.ensures ∙ c.in_ok-queues.ensures)

pub loop-pass-init : goal.loop-pass-init
loop-pass-init c =
    let frame = numbered c.args.frame.now in
    let cost = subst (λ list. IsFrameCost (on_queues list frame) c.in_ok-given.given) c.deref.ensures c.in_ok-given.ensures in
    found_first frame c.in_ok-queues.queues c.in_ok-given.given c.frame-good.ensures.numbers c.in_ok-queues.ensures cost

pub pick-requires-clause-below : goal.pick-requires-clause-below
pick-requires-clause-below c =
    let frame = numbered c.args.frame.now in
    subst (All (λ q. q < length frame.queues)) (sym c.deref-in-loop-pass.ensures) (found_below frame c.loop-pass.pass c.in_ok-given.given c.loop-pass.queues c.loop-pass.found c.loop-pass.invariant)

pub loop-pass-preserved : goal.loop-pass-preserved
loop-pass-preserved c =
    let frame = numbered c.args.frame.now in
    let best = c.in_ok-best.best in
    let lt : c.loop-pass.pass < length frame.passes = search rules in
    let pick = subst (λ list. IsPick frame list c.loop-pass.pass best.queue) c.deref-in-loop-pass.ensures c.in_ok-best.ensures.pick in
    let cost = subst (λ list. Costs frame list c.loop-pass.pass best.queue best.cost) c.deref-in-loop-pass.ensures c.in_ok-best.ensures.cost in
    found_more frame c.loop-pass.pass c.in_ok-given.given c.loop-pass.queues c.set.new.self c.loop-pass.found best.queue best.cost lt c.loop-pass.invariant pick cost c.in_ok-best.ensures.less c.set.ensures
