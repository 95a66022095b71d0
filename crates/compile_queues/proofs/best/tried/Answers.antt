use Rattle.std.proofs.Common.{◌≡◌, length, rules, slice_set, subst}
use Rattle.std.specs.Prelude.{IfOk}
use Rattle.compile_queues.specs.Cost.{IsFrameCost}
use Rattle.compile_queues.specs.Queues.{on_queues}
use Rattle.compile_queues.proofs.Trying.{set_below, set_count}
use Rattle.compile_queues.proofs.best.tried.Goals as goal
use Rattle.frame.specs.Numbered.{numbered}

pub cost_on-requires-clause-count : goal.cost_on-requires-clause-count
cost_on-requires-clause-count c =
    let set : c.deref.result.now ≡ slice_set c.args.queues.now c.args.pass c.args.queue = search rules in
    set_count c.args.queues.now c.deref.result.now c.args.pass c.args.queue (length (numbered c.args.frame.now).passes) c.requires.count set

pub cost_on-requires-clause-below : goal.cost_on-requires-clause-below
cost_on-requires-clause-below c =
    let set : c.deref.result.now ≡ slice_set c.args.queues.now c.args.pass c.args.queue = search rules in
    set_below c.args.queues.now c.deref.result.now c.args.pass c.args.queue (length (numbered c.args.frame.now).queues) c.requires.below c.requires.queue set

pub returns : goal.returns
returns c =
    let set : c.deref.result.now ≡ slice_set c.args.queues.now c.args.pass c.args.queue = search rules in
    subst (λ list. IfOk c.cost_on.result (IsFrameCost (on_queues list (numbered c.args.frame.now)))) set c.cost_on.ensures
