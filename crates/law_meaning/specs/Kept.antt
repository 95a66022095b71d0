-- The passes that are kept, run without the others.
use Rattle.std.specs.Prelude.{ℕ, List, [], ◌∷◌, map, Bool, if◌then◌else◌}
use Rattle.frame.specs.Valid.{shapes_in}
use Rattle.frame.specs.Numbered.{NumberedFrame}
use Rattle.frame.specs.declared.numbered.NumberedPass.{NumberedPass}
use Rattle.frame_meaning.specs.Meaning.{first_bytes, after_passes}

-- for each pass it is told whether it is kept
abbrev pub kept_passes : List NumberedPass → List Bool → List NumberedPass
kept_passes [] kept = []
kept_passes (pass ∷ passes) [] = []
kept_passes (pass ∷ passes) (keep ∷ kept) = if keep then pass ∷ kept_passes passes kept else kept_passes passes kept

-- the bytes of all units after the kept passes alone
abbrev pub kept_bytes : NumberedFrame → List Bool → List (List ℕ)
kept_bytes frame kept = after_passes (shapes_in frame) (map first_bytes frame.units) (kept_passes frame.passes kept)
