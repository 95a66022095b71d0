-- Marks of the units that have contents.
use Rattle.std.specs.Prelude.{◌≡◌, ◌<◌, ℕ, List, [], ◌∷◌, Bool, true, false, Option, Some, None, length, slice_set, slice_index_or, if◌then◌else◌}
use Rattle.base.specs.Operands.{destination_of}
use Rattle.base.specs.declared.op.Op.{Op}
use Rattle.frame.specs.Numbered.{NumberedFrame}
use Rattle.frame.specs.declared.numbered.NumberedPass.{NumberedPass}
use Rattle.frame_meaning.specs.Meaning.{has_picture}

-- the marks when these operations have run too
abbrev pub marked_by : List (Op ℕ) → List Bool → List Bool
marked_by [] marks = marks
marked_by (op ∷ ops) marks = marked_by ops (slice_set marks (destination_of op) true)

abbrev pub marked : List NumberedPass → List Bool → List Bool
marked [] marks = marks
marked (pass ∷ passes) marks = marked passes (marked_by pass.ops marks)

pub record AreMarked (frame : NumberedFrame) (marks : List Bool) : Type 0 where
  pub count : length marks ≡ length frame.units
  pub each : (unit : ℕ) → unit < length frame.units → slice_index_or marks unit false ≡ has_picture frame unit

-- the bytes where they are marked
abbrev pub chosen : List Bool → List (List ℕ) → List (Option (List ℕ))
chosen [] bytes = []
chosen (mark ∷ marks) [] = []
chosen (mark ∷ marks) (one ∷ bytes) = (if mark then Some one else None) ∷ chosen marks bytes
