use Rattle.device_model.proofs.Insides.{lines_within}
use Rattle.device_model.proofs.Programs.{commands}
use Rattle.device_model.proofs.Progress.{progressed}
use Rattle.device_model.proofs.Running.{runs}
use Rattle.device_model.proofs.Simulation.{simulated}
use Rattle.device_model.proofs.laws.device_laws.Goals as goal

pub returns-clause-simulates : goal.returns-clause-simulates
returns-clause-simulates c = λ program none sound order O main holds told. simulated program (commands program none) sound order O main holds told

pub returns-clause-progresses : goal.returns-clause-progresses
returns-clause-progresses c = λ program none sound main holds told. progressed program (commands program none) sound main holds told

pub returns-clause-runs : goal.returns-clause-runs
returns-clause-runs c = λ d none. runs d none

pub returns-clause-within : goal.returns-clause-within
returns-clause-within c = λ d none. lines_within d none
