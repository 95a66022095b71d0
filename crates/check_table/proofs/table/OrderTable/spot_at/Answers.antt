use Rattle.std.proofs.Common.{arith}
use Rattle.check_table.proofs.table.OrderTable.spot_at.Goals as goal

pub returns-in-Some-clause-some : goal.returns-in-Some-clause-some
returns-in-Some-clause-some c = λ n e. record {
  seat = e;
  there = c.in-Some.ensures.some.0;
  its = c.in-Some.ensures.some.1;
  fits = let r = c.requires.filled.ready.runs n c.args.run e in let l = c.in-Some.ensures.some.0 in omega (arith, r, l);
}

pub returns-in-None-clause-none : goal.returns-in-None-clause-none
returns-in-None-clause-none c = λ n p t e l q. c.in-None.ensures.none t l q
