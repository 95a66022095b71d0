use Rattle.check_order.proofs.HostReads.{ends}
use Rattle.check_order.proofs.InOrder.{goes_not_back, path_within, goes_forward, comes_never_back}
use Rattle.check_order.proofs.laws.before_laws.Goals as goal
use Rattle.base_reach.specs.Paths.{then_on}

pub returns-clause-forward : goal.returns-clause-forward
returns-clause-forward c = λ nodes order O x y p. goes_forward nodes order O x y p

pub returns-clause-transitive : goal.returns-clause-transitive
returns-clause-transitive c = λ nodes x y z p q. then_on p q

pub returns-clause-irreflexive : goal.returns-clause-irreflexive
returns-clause-irreflexive c = λ nodes order O x p. comes_never_back nodes order O x p

pub returns-clause-asymmetric : goal.returns-clause-asymmetric
returns-clause-asymmetric c = goes_not_back

pub returns-clause-within : goal.returns-clause-within
returns-clause-within c = path_within

pub returns-clause-ends : goal.returns-clause-ends
returns-clause-ends c = ends
