use Rattle.flight.proofs.Same.{window_is}
use Rattle.flight.proofs.window.window.Goals as goal

pub returns : goal.returns
returns c = window_is c.args.queues.now c.in_ok-copy.field-0 c.index.result.now c.args.frames.now c.args.persist.now c.args.persisted.now c.in_ok-all_resources.field-0 c.in_ok-all_passes.field-0 c.in_ok-exports.field-0 c.requires.persisted c.requires.queue c.index.ensures c.in_ok-copy.ensures c.in_ok-all_resources.ensures c.in_ok-all_passes.ensures c.in_ok-exports.ensures
