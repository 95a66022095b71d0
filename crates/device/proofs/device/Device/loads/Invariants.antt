use Rattle.std.proofs.Common.{◌≡◌, [], ◌∷◌, ◌++◌, map, drop}
use Rattle.std.specs.List.{filter}
use Rattle.device.proofs.device.Device.loads.Given as goal
use Rattle.device_model.specs.Devices.{state_of, view_in}
use Rattle.device_model.specs.Steps.{loaded_by}
use Rattle.check_access.specs.AccessKinds.{loads}

-- what is still to come leads to all loads
abbrev pub invariant-loop-access : goal.invariant-loop-access
invariant-loop-access l =
    let f = loaded_by (view_in l.self) (state_of l.self) l.node (l.self.fill ∷ []) in
    l.loaded ++ map f (filter (λ a. loads a.kind) (drop l.access-index l.access-items)) ≡ map f (filter (λ a. loads a.kind) l.access-items)
