use Rattle.std.proofs.Common.{◌<◌, length, ◌∙◌, sym, ap, subst}
use Rattle.device.proofs.Readiness.{agrees_ready}
use Rattle.device.proofs.device.Device.ready.Goals as goal
use Rattle.device.specs.Internal.Kept.{device_in}
use Rattle.device_model.specs.Devices.{Device, view_in, is_ready}
use Rattle.check_access.specs.Views.{View}

pub is_ready-requires : goal.is_ready-requires
is_ready-requires c =
    let n = c.args.node in
    subst (λ (v : View). n < length v.nodes) (sym c.self.invariant.view) (subst (λ (d : Device). n < length (view_in d).nodes) (sym c.self.view_is) c.requires)

pub returns : goal.returns
returns c =
    let n = c.args.node in
    let i = c.self.inside in
    c.is_ready.ensures ∙ agrees_ready i.control (device_in i) c.self.invariant.view c.self.invariant.state.agrees n ∙ ap (λ (d : Device). is_ready d n) c.self.view_is
