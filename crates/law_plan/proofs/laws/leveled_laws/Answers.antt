use Rattle.law_plan.proofs.Leasts.{has_least}
use Rattle.law_plan.proofs.Levels.{lower_first, leveled_order, never_stuck}
use Rattle.law_plan.proofs.laws.leveled_laws.Goals as goal

pub returns-clause-lower_first : goal.returns-clause-lower_first
returns-clause-lower_first c = lower_first

pub returns-clause-order : goal.returns-clause-order
returns-clause-order c = leveled_order

pub returns-clause-never_stuck : goal.returns-clause-never_stuck
returns-clause-never_stuck c = never_stuck

pub returns-clause-least : goal.returns-clause-least
returns-clause-least c = has_least
