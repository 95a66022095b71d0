-- Operations that leave no old byte.
use Rattle.std.specs.Prelude.{◌≡◌, ℕ, List, length}
use Rattle.base.specs.Applied.{effect}
use Rattle.base.specs.Operands.{destination_of}
use Rattle.base.specs.Shapes.{bytes_of}
use Rattle.base.specs.declared.op.Op.{Op}
use Rattle.base.specs.declared.shape.Shape.{Shape}

-- any two lists of old bytes lead to the same bytes
abbrev pub IgnoresOld : Op Shape → Type 0
IgnoresOld op =
    (first second third old other : List ℕ)
    → length old ≡ bytes_of (destination_of op)
    → length other ≡ bytes_of (destination_of op)
    → effect op first second third old ≡ effect op first second third other
