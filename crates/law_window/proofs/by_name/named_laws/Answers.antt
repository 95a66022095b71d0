use Rattle.law_window.proofs.Faultless.{declared_good, declared_means, declared_numbered, declared_together}
use Rattle.law_window.proofs.Persisting.{held_by_names}
use Rattle.law_window.proofs.Turns.{declared_in_turn, each_declared}
use Rattle.law_window.proofs.by_name.named_laws.Goals as goal

pub returns-clause-persisted : goal.returns-clause-persisted
returns-clause-persisted c = held_by_names

pub returns-clause-numbers : goal.returns-clause-numbers
returns-clause-numbers c = declared_numbered

pub returns-clause-together : goal.returns-clause-together
returns-clause-together c = declared_together

pub returns-clause-faultless : goal.returns-clause-faultless
returns-clause-faultless c = declared_good

pub returns-clause-means : goal.returns-clause-means
returns-clause-means c = declared_means

pub returns-clause-each : goal.returns-clause-each
returns-clause-each c = each_declared

pub returns-clause-in_turn : goal.returns-clause-in_turn
returns-clause-in_turn c = declared_in_turn
