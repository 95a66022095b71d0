use Rattle.device_audit.proofs.Again.{read_again}
use Rattle.device_audit.proofs.law.trace_law.Goals as goal

pub returns : goal.returns
returns c = read_again
