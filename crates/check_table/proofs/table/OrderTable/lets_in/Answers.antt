use Rattle.check_table.proofs.Told.{entered, not_entered}
use Rattle.check_table.proofs.table.OrderTable.lets_in.Goals as goal

pub enters_from-requires-clause-k : goal.enters_from-requires-clause-k
enters_from-requires-clause-k c = c.requires.filled.ready.nodes c.args.x c.in-Some.p c.in-Some.ensures.some

pub returns-in-Some : goal.returns-in-Some
returns-in-Some c = λ W O M. entered W c.args.self.now c.requires.filled O c.enters_from.result c.args.x c.args.m c.args.stage.0 c.in-Some.p c.in-Some.ensures.some (c.enters_from.ensures W O M)

pub returns-in-None : goal.returns-in-None
returns-in-None c = λ W O M. not_entered W c.args.self.now c.requires.filled O c.args.x c.args.m c.args.stage.0 c.in-None.ensures.none
