-- A device with the commands that are begun on it.
use Rattle.device_audit.specs.Internal.Following.{Holds}
use Rattle.device_audit.specs.declared.follower.Follower.TheInside.{Inside}
use Rattle.device_model.specs.Devices.{Device}

abbrev pub device_in : Inside → Device
device_in i = i.device

abbrev pub HoldsBegun : Inside → Type 0
HoldsBegun i = Holds i.device i.begun.items
