use Rattle.std.proofs.Common.{subst}
use Rattle.std.specs.Prelude.{◌↔◌, IsTrue}
use Rattle.device.proofs.device.Device.complete.Goals as goal
use Rattle.device.specs.Internal.Kept.{device_in}
use Rattle.device_model.specs.Devices.{Device, state_of, IsComplete}
use Rattle.device_model.specs.Laws.{AllDone}
use Rattle.check_access.specs.Views.{View}

pub returns : goal.returns
returns c =
    let d = device_in c.self.inside in
    subst (λ (d : Device). IsTrue c.complete.result ↔ IsComplete d) c.self.view_is (subst (λ (v : View). IsTrue c.complete.result ↔ AllDone v (state_of d)) c.self.invariant.view (c.complete.ensures (state_of d) c.self.invariant.state.agrees))
