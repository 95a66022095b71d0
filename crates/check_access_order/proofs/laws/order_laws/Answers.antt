use Rattle.check_access_order.proofs.Forward.{order_forward, ways}
use Rattle.check_access_order.proofs.Singles.{single}
use Rattle.check_access_order.proofs.Through.{goes_through, cuts_off}
use Rattle.check_access_order.proofs.laws.order_laws.Goals as goal

pub returns-clause-single : goal.returns-clause-single
returns-clause-single c = single

pub returns-clause-through : goal.returns-clause-through
returns-clause-through c = goes_through

pub returns-clause-cut : goal.returns-clause-cut
returns-clause-cut c = cuts_off

pub returns-clause-ways : goal.returns-clause-ways
returns-clause-ways c = ways

pub returns-clause-earlier : goal.returns-clause-earlier
returns-clause-earlier c = λ V A order O n m a b hb apart h. order_forward V A order O n m a b hb apart h
