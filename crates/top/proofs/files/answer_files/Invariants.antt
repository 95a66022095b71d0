use Rattle.std.proofs.Common.{take}
use Rattle.top.proofs.files.answer_files.Given as goal
use Rattle.top.specs.Files.{AreAnswered}

abbrev pub invariant-loop-name : goal.invariant-loop-name
invariant-loop-name g l = AreAnswered l.command (take l.name-index l.names) l.files.items
