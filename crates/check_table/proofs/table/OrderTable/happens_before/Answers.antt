use Rattle.check_table.proofs.Told.{before, no_node, not_itself}
use Rattle.check_table.proofs.table.OrderTable.happens_before.Goals as goal

pub returns-then-x-y : goal.returns-then-x-y
returns-then-x-y c = λ W O. not_itself W c.args.self.now c.requires.filled O c.args.x c.args.y c.if-x-y.true

pub leads_from-requires-clause-k : goal.leads_from-requires-clause-k
leads_from-requires-clause-k c = c.requires.filled.ready.nodes c.args.x c.in-Some.p c.in-Some.ensures.some

pub returns-in-Some : goal.returns-in-Some
returns-in-Some c = λ W O. before W c.args.self.now c.requires.filled O c.leads_from.result c.args.x c.args.y c.in-Some.p c.if-x-y.false c.in-Some.ensures.some (c.leads_from.ensures W O)

pub returns-in-None : goal.returns-in-None
returns-in-None c = λ W O. no_node W c.args.self.now c.requires.filled O c.args.x c.args.y c.in-None.ensures.none
