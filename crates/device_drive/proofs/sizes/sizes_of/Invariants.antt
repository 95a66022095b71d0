use Rattle.std.proofs.Common.{◌≡◌, map, take}
use Rattle.device_drive.proofs.sizes.sizes_of.Given as goal
use Rattle.program.specs.Limits.{memory_bytes}

abbrev pub invariant-loop-memory : goal.invariant-loop-memory
invariant-loop-memory l = l.sizes ≡ map memory_bytes (take l.memory-index l.program.memories)
