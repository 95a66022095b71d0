use Rattle.std.proofs.Common.{◌≡◌, ◌++◌, drop}
use Rattle.file_program.specs.Pieces.{flat}
use Rattle.file_program.proofs.entry.flat.Given as goal

abbrev pub invariant-loop-row : goal.invariant-loop-row
invariant-loop-row l = l.pieces ++ flat (drop l.row-index l.rows) ≡ flat l.rows
