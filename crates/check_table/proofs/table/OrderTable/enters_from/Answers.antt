use Rattle.check_table.proofs.Told.{enters, no_entry}
use Rattle.check_table.proofs.table.OrderTable.enters_from.Goals as goal

pub leads_to-requires-clause-t : goal.leads_to-requires-clause-t
leads_to-requires-clause-t c = c.in-Some.ensures.some.there

pub leads_to-requires-clause-q : goal.leads_to-requires-clause-q
leads_to-requires-clause-q c = (c.args.m, c.in-Some.ensures.some.seat)

pub returns-in-Some : goal.returns-in-Some
returns-in-Some c = λ W O M. enters W c.args.self.now c.requires.filled O c.leads_to.result c.args.k c.args.m c.args.stage.0 c.in-Some.spot c.requires.m M c.in-Some.ensures.some c.leads_to.ensures

pub returns-in-None : goal.returns-in-None
returns-in-None c = λ W O M. no_entry W c.args.self.now c.requires.filled O c.args.k c.args.m c.args.stage.0 c.requires.m M c.in-None.ensures.none
