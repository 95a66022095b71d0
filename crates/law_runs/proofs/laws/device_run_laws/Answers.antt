use Rattle.law_runs.proofs.Devices.{device_simulated, device_progressed}
use Rattle.law_runs.proofs.laws.device_run_laws.Goals as goal

pub returns-clause-simulates : goal.returns-clause-simulates
returns-clause-simulates c = λ S F X order O main d h. device_simulated S F X order O main d h

pub returns-clause-progresses : goal.returns-clause-progresses
returns-clause-progresses c = λ S F X main d h. device_progressed S F X main d h
