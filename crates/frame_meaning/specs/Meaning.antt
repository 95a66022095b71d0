-- What a frame means: all operations of all passes one after another, each unit having bytes of its own.
use Rattle.std.specs.Prelude.{◌≡◌, ℕ, List, [], ◌∷◌, ◌==◌, ◌||◌, map, replicate, Bool, Option, Some, None, slice_get, unwrap_or, if◌then◌else◌}
use Rattle.std.specs.List.{list_any}
use Rattle.base.specs.Applied.{bytes_at, after_op}
use Rattle.base.specs.Operands.{destination_of}
use Rattle.base.specs.Shapes.{bytes_of}
use Rattle.base.specs.declared.op.Op.{Op}
use Rattle.base.specs.declared.shape.Shape.{Shape}
use Rattle.frame.specs.Valid.{is_import, shapes_in}
use Rattle.frame.specs.Numbered.{NumberedFrame}
use Rattle.frame.specs.Units.{Unit}
use Rattle.frame.specs.declared.numbered.NumberedPass.{NumberedPass}

-- THE BYTES OF ALL UNITS

-- before the first pass: imports, and zeros, of which nothing is left by the operation that first stores to a unit
abbrev pub first_bytes : Unit → List ℕ
first_bytes u = unwrap_or u.imported (replicate (bytes_of u.shape) 0)

abbrev pub after_ops : List Shape → List (List ℕ) → List (Op ℕ) → List (List ℕ)
after_ops shapes bytes [] = bytes
after_ops shapes bytes (op ∷ ops) = after_ops shapes (after_op shapes bytes op) ops

abbrev pub after_passes : List Shape → List (List ℕ) → List NumberedPass → List (List ℕ)
after_passes shapes bytes [] = bytes
after_passes shapes bytes (pass ∷ passes) = after_passes shapes (after_ops shapes bytes pass.ops) passes

abbrev pub all_bytes : NumberedFrame → List (List ℕ)
all_bytes frame = after_passes (shapes_in frame) (map first_bytes frame.units) frame.passes

-- WHICH UNITS HAVE CONTENTS

abbrev pub stores_to : ℕ → NumberedPass → Bool
stores_to unit pass = list_any (λ op. destination_of op == unit) pass.ops

abbrev pub has_picture : NumberedFrame → ℕ → Bool
has_picture frame unit = is_import frame.units unit || list_any (stores_to unit) frame.passes

-- the bytes of a unit after all passes; none where it is no import and no operation stores to it
abbrev pub meaning : NumberedFrame → ℕ → Option (List ℕ)
meaning frame unit = if has_picture frame unit then Some (bytes_at (all_bytes frame) unit) else None

-- export k of the frame has the bytes of k, and these are what its unit means
abbrev pub AreMeant : NumberedFrame → (ℕ → List ℕ) → Type 0
AreMeant frame bytes = (k unit : ℕ) → slice_get frame.exports k ≡ Some unit → meaning frame unit ≡ Some (bytes k)
