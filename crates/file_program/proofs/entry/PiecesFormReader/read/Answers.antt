use Rattle.file_program.specs.Pieces.{FitsPiece}
use Rattle.file_program.proofs.Layers.{all_flat}
use Rattle.file_program.proofs.entry.PiecesFormReader.read.Goals as goal

pub returns-clause-fits : goal.returns-clause-fits
returns-clause-fits g c = rw c.in_ok-flat.ensures (all_flat FitsPiece _ c.in_ok-rows.ensures.fits)
