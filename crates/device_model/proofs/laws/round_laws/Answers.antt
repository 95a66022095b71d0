use Rattle.device_model.proofs.Rounds.{is_round, leaves_phases, counts_down}
use Rattle.device_model.proofs.laws.round_laws.Goals as goal

pub returns-clause-rounds : goal.returns-clause-rounds
returns-clause-rounds c = λ d idle n. is_round d n idle

pub returns-clause-moves : goal.returns-clause-moves
returns-clause-moves c = λ d event move. leaves_phases d event move

pub returns-clause-counts : goal.returns-clause-counts
returns-clause-counts c = λ d. counts_down d
