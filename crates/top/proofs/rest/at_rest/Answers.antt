use Rattle.std.proofs.Common.{refl}
use Rattle.top.proofs.CallLemmas.{called, worded}
use Rattle.top.proofs.rest.at_rest.Goals as goal

pub returns-else-needs_device-clause-call : goal.returns-else-needs_device-clause-call
returns-else-needs_device-clause-call g c =
    called _ c.in-Some.command _ _ _ _ c.answer.result c.in-Some.is c.answer.ensures.answered c.answer.ensures.read c.answer.ensures.write c.answer.ensures.taken c.answer.ensures.whole

pub returns-in-None-clause-call : goal.returns-in-None-clause-call
returns-in-None-clause-call g c = worded _ _ _ _ _ c.put.result c.in-None.is refl refl refl refl c.put.ensures.ends c.put.ensures.cause c.put.ensures.either
