use Rattle.std.proofs.Common.{◌≡◌, None, take}
use Rattle.std.specs.List.{All}
use Rattle.frame.specs.FirstFault.{first_fault}
use Rattle.flight.proofs.windows.all_good.Given as goal

abbrev pub invariant-loop-i : goal.invariant-loop-i
invariant-loop-i l = All (λ frame. first_fault frame ≡ None) (take l.i l.frames)
