use Rattle.std.proofs.Common.{◌≡◌, take}
use Rattle.std.specs.List.{flat_map}
use Rattle.base.specs.Touches.{touches_of}
use Rattle.check_access.specs.Effects.{touch_accesses}
use Rattle.check_access.proofs.command.command_accesses.Given as goal

abbrev pub invariant-loop-k : goal.invariant-loop-k
invariant-loop-k l = l.accesses ≡ flat_map (touch_accesses l.shapes l.queue) (take l.k (touches_of l.shapes l.op))
