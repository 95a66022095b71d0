use Rattle.std.proofs.Common.{◌≡◌, take, map}
use Rattle.law_window.specs.Names.{rename_in}
use Rattle.law_window.specs.Passes.{renamed_spot}
use Rattle.flight.proofs.spots.renamed_spots.Given as goal

abbrev pub invariant-loop-spot : goal.invariant-loop-spot
invariant-loop-spot l = l.renamed ≡ map (renamed_spot (rename_in l.i l.frame)) (take l.spot-index l.spots)
