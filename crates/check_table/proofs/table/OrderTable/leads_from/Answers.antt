use Rattle.std.proofs.Common.{sym, ◌∙◌}
use Rattle.check_table.proofs.Told.{from_node, from_host, from_run}
use Rattle.check_table.proofs.table.OrderTable.leads_from.Goals as goal

pub reaches-requires-clause-y : goal.reaches-requires-clause-y
reaches-requires-clause-y c = (c.args.y, sym c.seat.ensures ∙ c.in-Node.is)

pub returns-in-Node : goal.returns-in-Node
returns-in-Node c = λ W O. from_node W c.args.self.now c.requires.filled O c.reaches.result c.args.k c.args.y c.in-Node.q (sym c.seat.ensures ∙ c.in-Node.is) c.reaches.ensures

pub returns-in-Host : goal.returns-in-Host
returns-in-Host c = λ W O. from_host W c.args.self.now c.requires.filled O c.leads_out.result c.args.k c.args.y c.requires.y (sym c.seat.ensures ∙ c.in-Host.is) c.leads_out.ensures

pub returns-in-Run : goal.returns-in-Run
returns-in-Run c = λ W O. from_run W c.args.self.now c.requires.filled O c.args.k c.args.y _ c.requires.y (sym c.seat.ensures ∙ c.in-Run.is)
