use Rattle.check_table.proofs.Turns.{at_among}
use Rattle.check_table.proofs.laying.next_node.Goals as goal

pub returns-clause-there : goal.returns-clause-there
returns-clause-there c = c.requires.order.only _ (at_among c.args.order.now c.args.k c.requires.k)
