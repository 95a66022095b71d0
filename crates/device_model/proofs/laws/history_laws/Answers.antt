use Rattle.device_model.proofs.Histories.{went_nowhere, went_node, went_move, joins}
use Rattle.device_model.proofs.laws.history_laws.Goals as goal

pub returns-clause-nowhere : goal.returns-clause-nowhere
returns-clause-nowhere c = λ d. went_nowhere d

pub returns-clause-node : goal.returns-clause-node
returns-clause-node c = λ old new events event. went_node old new events event

pub returns-clause-cache_move : goal.returns-clause-cache_move
returns-clause-cache_move c = λ old new events event. went_move old new events event

pub returns-clause-joins : goal.returns-clause-joins
returns-clause-joins c = λ old middle new first second. joins old middle new first second
