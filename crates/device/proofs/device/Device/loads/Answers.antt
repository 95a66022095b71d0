use Rattle.std.proofs.Common.{◌≡◌, List, [], ◌∷◌, map, ap, ◌∙◌}
use Rattle.std.specs.List.{filter}
use Rattle.device.proofs.Touching.{has_at}
use Rattle.device.proofs.Turning.{loads_all}
use Rattle.device.proofs.device.Device.loads.Goals as goal
use Rattle.device_model.specs.Devices.{Device, state_of, view_in}
use Rattle.device_model.specs.Steps.{loaded_by}
use Rattle.check_access.specs.AccessKinds.{loads}
use Rattle.check_access.specs.Views.{View, accesses_of}
use Rattle.check_access.specs.declared.access.Access.{Access}
use Rattle.check_access.specs.declared.effect.Effect.{Effect}

pub load-requires-clause-has : goal.load-requires-clause-has
load-requires-clause-has c =
    let n = c.args.node in
    let d = c.args.self.now in
    let list = c.as_slice-access-items.result.now in
    let seen : c.view.result.now ≡ view_in d = c.view.ensures.view ∙ c.self.invariant.view ∙ ap (λ (d : Device). view_in d) c.self.view_is in
    let is : list ≡ accesses_of (view_in d) n = c.as_slice-access-items.ensures ∙ ap (λ (e : Effect). e.accesses) c.effect_at.ensures ∙ ap (λ (v : View). accesses_of v n) seen in
    has_at (view_in d) n c.loop-access.access-index list _ is c.loop-access-test.true

pub returns : goal.returns
returns c =
    let n = c.args.node in
    let d = c.args.self.now in
    let list = c.as_slice-access-items.result.now in
    let f = loaded_by (view_in d) (state_of d) n (d.fill ∷ []) in
    let seen : c.view.result.now ≡ view_in d = c.view.ensures.view ∙ c.self.invariant.view ∙ ap (λ (d : Device). view_in d) c.self.view_is in
    let is : list ≡ accesses_of (view_in d) n = c.as_slice-access-items.ensures ∙ ap (λ (e : Effect). e.accesses) c.effect_at.ensures ∙ ap (λ (v : View). accesses_of v n) seen in
    loads_all f list c.loop-access.access-index c.loop-access.loaded c.loop-access-test.false c.loop-access.invariant ∙ ap (λ (list : List Access). map f (filter (λ a. loads a.kind) list)) is
