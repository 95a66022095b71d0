use Rattle.law_runs.proofs.Progress.{progressed}
use Rattle.law_runs.proofs.Simulation.{simulated}
use Rattle.law_runs.proofs.laws.run_laws.Goals as goal

pub returns-clause-simulates : goal.returns-clause-simulates
returns-clause-simulates c = λ S F X order O main s r. simulated S F X order O main s r

pub returns-clause-progresses : goal.returns-clause-progresses
returns-clause-progresses c = λ S F X main s r. progressed S F X main s r
