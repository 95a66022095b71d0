use Rattle.check_table.proofs.Nodes.{goes_through}
use Rattle.check_table.proofs.Same.{stand_alone, same}
use Rattle.check_table.proofs.laws.table_laws.Goals as goal

pub returns-clause-through : goal.returns-clause-through
returns-clause-through c = goes_through

pub returns-clause-alone : goal.returns-clause-alone
returns-clause-alone c = stand_alone

pub returns-clause-same : goal.returns-clause-same
returns-clause-same c = same
