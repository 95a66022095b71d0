use Rattle.law_nodes.proofs.Whole.{same_pair, same_synchronized, same_first, same_sound}
use Rattle.law_nodes.proofs.laws.node_laws.Goals as goal

pub returns-clause-pair : goal.returns-clause-pair
returns-clause-pair c = same_pair

pub returns-clause-synchronized : goal.returns-clause-synchronized
returns-clause-synchronized c = same_synchronized

pub returns-clause-first : goal.returns-clause-first
returns-clause-first c = same_first

pub returns-clause-sound : goal.returns-clause-sound
returns-clause-sound c = same_sound
