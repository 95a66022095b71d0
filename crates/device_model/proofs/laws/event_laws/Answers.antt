use Rattle.device_model.proofs.Rounds.{is_job}
use Rattle.device_model.proofs.Running.{opens, goes_on_by, moves_by}
use Rattle.device_model.proofs.laws.event_laws.Goals as goal

pub returns-clause-opens : goal.returns-clause-opens
returns-clause-opens c = λ program fill moves. opens program fill moves

pub returns-clause-nodes : goal.returns-clause-nodes
returns-clause-nodes c = λ d n. goes_on_by d n

pub returns-clause-moves : goal.returns-clause-moves
returns-clause-moves c = λ d m. moves_by d m

pub returns-clause-jobs : goal.returns-clause-jobs
returns-clause-jobs c = λ d none n may. is_job d none n may
