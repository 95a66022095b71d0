use Rattle.std.proofs.Common.{◌≡◌, map, take}
use Rattle.device.proofs.opening.opening_of.Given as goal
use Rattle.device.specs.Internal.Opened.{opened_memory}

abbrev pub invariant-loop-memory : goal.invariant-loop-memory
invariant-loop-memory l = l.opening ≡ map (opened_memory l.fill) (take l.memory-index l.memories)
