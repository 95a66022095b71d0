use Rattle.std.proofs.Common.{◌≡◌, None, subst}
use Rattle.std.specs.Prelude.{IfSome, IfNone}
use Rattle.device.proofs.Readiness.{some_next, none_next}
use Rattle.device.proofs.device.Device.pick.Goals as goal
use Rattle.device.specs.Internal.Kept.{device_in}
use Rattle.device_model.specs.Devices.{Device, IsNext, NoneReady}
use Rattle.program.specs.FirstFault.{first_fault}

pub returns-clause-some : goal.returns-clause-some
returns-clause-some c =
    let i = c.self.inside in
    subst (λ (d : Device). IfSome c.pick.result (IsNext d c.args.queue)) c.self.view_is (some_next i.control (device_in i) c.self.invariant.view c.self.invariant.state.agrees c.args.queue c.pick.result c.pick.ensures.some)

pub returns-clause-none : goal.returns-clause-none
returns-clause-none c =
    let i = c.self.inside in
    subst (λ (d : Device). IfNone c.pick.result (NoneReady d c.args.queue)) c.self.view_is (none_next i.control (device_in i) c.self.invariant.view c.self.invariant.state.agrees c.args.queue c.pick.result c.pick.ensures.none)

pub returns-clause-stands : goal.returns-clause-stands
returns-clause-stands c = (c.device_laws.ensures.runs c.args.self.now (subst (λ (d : Device). first_fault d.program ≡ None) c.self.view_is c.self.invariant.faultless)).stands
