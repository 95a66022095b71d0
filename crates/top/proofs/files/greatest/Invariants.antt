use Rattle.std.proofs.Common.{◌≡◌, drop, fold}
use Rattle.top.proofs.files.greatest.Given as goal
use Rattle.top.specs.Files.{greater, greatest}

abbrev pub invariant-loop-file : goal.invariant-loop-file
invariant-loop-file l = fold greater l.most (drop l.file-index l.files) ≡ greatest l.files
