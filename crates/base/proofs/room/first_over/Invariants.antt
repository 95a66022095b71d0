use Rattle.std.proofs.Common.{◌≡◌, drop}
use Rattle.base.specs.Rooms.{first_over, SizesAs}
use Rattle.base.proofs.room.first_over.Given as goal

abbrev pub invariant-loop-i : goal.invariant-loop-i
invariant-loop-i g l = (says : _) → SizesAs (goal.F-post g l.size) says → first_over says l.left l.i (drop l.i l.entries) ≡ first_over says l.fn.room 0 l.entries
