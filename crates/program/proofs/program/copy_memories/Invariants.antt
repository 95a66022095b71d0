use Rattle.std.proofs.Common.{◌≡◌, take}
use Rattle.program.proofs.program.copy_memories.Given as goal

abbrev pub invariant-loop-memory : goal.invariant-loop-memory
invariant-loop-memory l = l.copies ≡ take l.memory-index l.memories
