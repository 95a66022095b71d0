use Rattle.compile_timeline.proofs.Entering.{are_parts, of_families}
use Rattle.compile_timeline.proofs.Placed.{are_numbered, all_there, in_order, are_for, are_met, ends, are_rising}
use Rattle.compile_timeline.proofs.laws.timeline_laws.Goals as goal

pub returns-clause-parts : goal.returns-clause-parts
returns-clause-parts c = are_parts

pub returns-clause-families : goal.returns-clause-families
returns-clause-families c = of_families

pub returns-clause-numbered : goal.returns-clause-numbered
returns-clause-numbered c = are_numbered

pub returns-clause-there : goal.returns-clause-there
returns-clause-there c = all_there

pub returns-clause-order : goal.returns-clause-order
returns-clause-order c = in_order

pub returns-clause-waits : goal.returns-clause-waits
returns-clause-waits c = are_for

pub returns-clause-met : goal.returns-clause-met
returns-clause-met c = are_met

pub returns-clause-ends : goal.returns-clause-ends
returns-clause-ends c = ends

pub returns-clause-values : goal.returns-clause-values
returns-clause-values c = are_rising
