use Rattle.check_tighten.proofs.OneProgram.{one_tightened}
use Rattle.check_tighten.proofs.OwnStages.{own_stages_do}
use Rattle.check_tighten.proofs.laws.tighten_law.Goals as goal

pub returns : goal.returns
returns c = record { one = one_tightened; own = own_stages_do }
