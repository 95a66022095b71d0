use Rattle.flight.proofs.Sizes.{size_here, size_nowhere}
use Rattle.flight.proofs.joins.size_of.Goals as goal

pub returns-then-k-resources : goal.returns-then-k-resources
returns-then-k-resources c = size_here c.args.resources.now c.args.k c.bytes.result c.index-resources-k.result c.if-k-resources.true c.index-resources-k.is c.bytes.ensures.bytes

pub returns-else-k-resources : goal.returns-else-k-resources
returns-else-k-resources c = size_nowhere c.args.resources.now c.args.k c.if-k-resources.false
