use Rattle.std.proofs.Common.{◌≡◌, map, take}
use Rattle.device.proofs.opening.rooms.Given as goal
use Rattle.device.specs.Internal.Opened.{room_of}

abbrev pub invariant-loop-piece : goal.invariant-loop-piece
invariant-loop-piece l = l.rooms.items ≡ map (room_of l.view) (take l.piece-index l.readbacks)
