use Rattle.std.proofs.Common.{◌≡◌, drop}
use Rattle.base.specs.Rooms.{spend_in, LeavesAs}
use Rattle.base.proofs.room.spend_in.Given as goal

abbrev pub invariant-loop-i : goal.invariant-loop-i
invariant-loop-i g l = (says : _) → LeavesAs (goal.F-post g l.spend) l.entries says → spend_in says l.left l.i (drop l.i l.entries) ≡ spend_in says l.fn.room 0 l.entries
