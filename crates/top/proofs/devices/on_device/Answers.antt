use Rattle.std.proofs.Common.{refl}
use Rattle.device_run.proofs.Keeping.{kept_none}
use Rattle.top.proofs.CallLemmas.{called, nothing_as}
use Rattle.top.proofs.devices.on_device.Goals as goal

pub returns-clause-call : goal.returns-clause-call
returns-clause-call g c =
    called _ c.in-Some.command _ _ _ _ c.answer.result.status c.in-Some.is c.answer.ensures.answered c.answer.ensures.read c.answer.ensures.write c.answer.ensures.taken c.answer.ensures.whole

pub returns-in_default-reserved-clause-call : goal.returns-in_default-reserved-clause-call
returns-in_default-reserved-clause-call g c =
    nothing_as _ _ _ _ c.untold.result.status c.untold.ensures.status (refl, c.untold.ensures.spent, c.untold.ensures.places) (kept_none (g.K.Keep.kept c.args.keeper.now))
