use Rattle.std.proofs.Common.{◌≡◌, take, map}
use Rattle.law_window.specs.Names.{rename_in}
use Rattle.law_window.specs.Passes.{renamed_write}
use Rattle.flight.proofs.passes.renamed_writes.Given as goal

abbrev pub invariant-loop-write : goal.invariant-loop-write
invariant-loop-write l = l.renamed ≡ map (renamed_write (rename_in l.i l.frame)) (take l.write-index l.writes)
