-- Room that contracts see as zeros, whatever its memory holds.
use Rattle.std.specs.Prelude.{ℕ, List, length, replicate}
use Rattle.device.specs.declared.room.Room.TheInside.{Inside}

abbrev pub zeros_of : Inside → List ℕ
zeros_of room = replicate (length room.bytes) 0
