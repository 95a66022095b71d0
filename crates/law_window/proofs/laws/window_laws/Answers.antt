use Rattle.law_window.proofs.InTurn.{each_together, means_in_turn}
use Rattle.law_window.proofs.Together.{together_bytes, together_good, together_means}
use Rattle.law_window.proofs.laws.window_laws.Goals as goal

pub returns-clause-bytes : goal.returns-clause-bytes
returns-clause-bytes c = together_bytes

pub returns-clause-good : goal.returns-clause-good
returns-clause-good c = together_good

pub returns-clause-means : goal.returns-clause-means
returns-clause-means c = together_means

pub returns-clause-each : goal.returns-clause-each
returns-clause-each c = each_together

pub returns-clause-in_turn : goal.returns-clause-in_turn
returns-clause-in_turn c = means_in_turn
