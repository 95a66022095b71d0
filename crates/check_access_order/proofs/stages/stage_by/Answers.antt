use Rattle.std.proofs.Common.{sym, subst}
use Rattle.check_access_order.proofs.StagesOf.{bit_one}
use Rattle.check_access_order.specs.Stages.{IsStage}
use Rattle.check_access_order.proofs.stages.stage_by.Goals as goal

pub returns-in-Of-clause-one : goal.returns-in-Of-clause-one
returns-in-Of-clause-one c = subst IsStage (sym c.bit_stage.ensures.stage) (bit_one c.in-Of.bit)
