use Rattle.std.proofs.Common.{◌≡◌, drop}
use Rattle.base.specs.Walks.{first_in}
use Rattle.flight.specs.Alone.{import_under}
use Rattle.flight.proofs.begun.first_import.Given as goal

abbrev pub invariant-loop-good : goal.invariant-loop-good
invariant-loop-good l = first_in (import_under l.name) l.good-index (drop l.good-index l.frames) ≡ first_in (import_under l.name) 0 l.frames
