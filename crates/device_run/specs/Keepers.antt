-- What a keeper has been handed.
use Rattle.std.specs.Prelude.{◌≡◌, List, ◌++◌, Option, Some, None}
use Rattle.device_model.specs.Devices.{Device}

-- these devices were handed over since, one after another; a keeper that tells nothing goes on so
abbrev pub KeptDevices : Option (List Device) → Option (List Device) → List Device → Type 0
KeptDevices None new devices = new ≡ None
KeptDevices (Some old) new devices = new ≡ Some (old ++ devices)

-- there are devices that were handed over since, and this holds of them
pub record Kept (old new : Option (List Device)) (P : List Device → Type 0) : Type 0 where
  pub devices : List Device
  pub kept : KeptDevices old new devices
  pub meets : P devices
