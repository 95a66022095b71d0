use Rattle.flight.proofs.Walks.{left_many}
use Rattle.flight.proofs.holders.left_after.Goals as goal

pub returns-clause-each : goal.returns-clause-each
returns-clause-each c = left_many c.args.i c.args.holders.now c.args.left.now c.loop-k.k c.loop-k.after c.loop-k-test.false c.loop-k.auto.k-end c.requires.each c.loop-k.invariant
