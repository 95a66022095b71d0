-- Worked rows: what small frames mean.
use Rattle.std.proofs.Common.{◌≡◌, ℕ, List, [], ◌∷◌, Option, Some, None, false, refl}
use Rattle.base.specs.Texels.{texel_at, low_bytes, band}
use Rattle.base.specs.declared.op.Fun.TheVariants.{Add}
use Rattle.base.specs.declared.op.Op.{Op}
use Rattle.base.specs.declared.op.Op.TheVariants.{FillBuffer, CopyBuffer, Map}
use Rattle.base.specs.declared.shape.Family.TheVariants.{Graphics}
use Rattle.base.specs.declared.shape.Shape.TheVariants.{Buffer}
use Rattle.frame.specs.Numbered.{NumberedFrame}
use Rattle.frame.specs.Units.{Unit}
use Rattle.frame.specs.declared.numbered.NumberedPass.{NumberedPass}
use Rattle.frame_meaning.specs.Meaning.{meaning}

-- buffers of four bytes, shared in whatever way
module _ (any : Unit) where
  abbrev unit : Option (List ℕ) → Unit
  unit bytes = record { shape = Buffer 4; sharing = any.sharing; imported = bytes }

  abbrev pass : List (Op ℕ) → NumberedPass
  pass ops = record { queue = 0; reads = []; writes = []; ops = ops; side_effect = false }

  -- an import 0, two buffers that are written and one that is not
  abbrev frame : List NumberedPass → NumberedFrame
  frame passes = record {
    units = unit (Some (1 ∷ 2 ∷ 3 ∷ 4 ∷ [])) ∷ unit None ∷ unit None ∷ unit None ∷ [];
    queues = Graphics ∷ [];
    passes = passes;
    exports = [];
  }

  -- a fill, and a map of it in a later pass
  abbrev two : NumberedFrame
  two = frame (pass (FillBuffer 1 0 4 7 ∷ []) ∷ pass (Map 1 2 Add 1 ∷ []) ∷ [])

  filled : meaning two 1 ≡ Some (7 ∷ 0 ∷ 0 ∷ 0 ∷ [])
  unfolding band low_bytes
  filled = refl

  mapped : meaning two 2 ≡ Some (8 ∷ 0 ∷ 0 ∷ 0 ∷ [])
  unfolding band low_bytes texel_at
  mapped = refl

  import_stays : meaning two 0 ≡ Some (1 ∷ 2 ∷ 3 ∷ 4 ∷ [])
  import_stays = refl

  never_written : meaning two 3 ≡ None
  never_written = refl

  -- what is copied is what stood there at that time, in declared order
  abbrev copied : NumberedFrame
  copied = frame (pass (CopyBuffer 0 1 0 0 4 ∷ FillBuffer 0 0 2 0 ∷ []) ∷ pass (CopyBuffer 0 2 0 0 4 ∷ []) ∷ [])

  before_the_fill : meaning copied 1 ≡ Some (1 ∷ 2 ∷ 3 ∷ 4 ∷ [])
  unfolding band low_bytes
  before_the_fill = refl
