use Rattle.check_table.proofs.table.OrderTable.spot.Goals as goal

pub returns-in-Some-clause-some : goal.returns-in-Some-clause-some
returns-in-Some-clause-some c = c.spot_at.ensures.some c.args.n c.in-Some.ensures.some

pub returns-in-Some-clause-none : goal.returns-in-Some-clause-none
returns-in-Some-clause-none c = c.spot_at.ensures.none c.args.n

pub returns-in-None-clause-none : goal.returns-in-None-clause-none
returns-in-None-clause-none c = λ p t e l q. c.in-None.ensures.none p e
