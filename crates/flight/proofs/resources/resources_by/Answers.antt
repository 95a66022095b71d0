use Rattle.std.proofs.Common.{◌∙◌}
use Rattle.flight.proofs.Walks.{resources_end}
use Rattle.flight.proofs.resources.resources_by.Goals as goal

pub returns : goal.returns
returns c = c.from_vec.ensures ∙ resources_end c.args.i c.args.holders.now c.args.persisted.now c.args.left.now c.args.resources.now c.loop-k.k c.loop-k.all.items c.loop-k-test.false c.loop-k.auto.k-end c.loop-k.invariant
