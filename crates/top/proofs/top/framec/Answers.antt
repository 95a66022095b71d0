use Rattle.std.proofs.Common.{refl}
use Rattle.device_run.proofs.Keeping.{kept_none}
use Rattle.top.proofs.CallLemmas.{from_ends, still_as}
use Rattle.top.proofs.top.framec.Goals as goal
use Rattle.top.specs.Ends.{ends}
use Rattle.top.specs.Told.{IsUntold}

pub returns-in-Some-clause-call : goal.returns-in-Some-clause-call
returns-in-Some-clause-call g c =
    let quiet : IsUntold c.args.taps.now.items c.args.taps.now.items c.untold.result.spent.items c.untold.result.places.items = (refl, c.untold.ensures.spent, c.untold.ensures.places) in
    still_as _ _ _ _ _ c.in-Some.status c.untold.result.status c.untold.ensures.status quiet (kept_none (g.K.Keep.kept c.args.keeper.now)) c.in-Some.ensures.call

pub returns-in-None-clause-call : goal.returns-in-None-clause-call
returns-in-None-clause-call g c =
    let left = c.without_workers.ensures.left c.in-None.ensures.none in
    from_ends (ends g.I.Source.left g.I.Source.faults g.O.Sink.taken g.O.Sink.faults) _ c.args.input.now c.without_workers.new.input c.args.output.now c.without_workers.new.output _ _ _ _ left.1 left.2 c.on_device.ensures.call
