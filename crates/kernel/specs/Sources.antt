-- The bytes that an operation is given.
use Rattle.std.specs.Prelude.{ℕ, Bool, true, false, map, slice_index}
use Rattle.base.specs.Operands.{sources_of}
use Rattle.base.specs.Shapes.{bytes_of}
use Rattle.base.specs.declared.op.Op.{Op}
use Rattle.base.specs.declared.op.Op.TheVariants.{Draw}
use Rattle.base.specs.declared.shape.Shape.{Shape}

-- how many the source with this place among the sources has: none where there is no such source
abbrev pub source_bytes : Op Shape → ℕ → ℕ
source_bytes op k = slice_index (map bytes_of (sources_of op)) k

abbrev pub is_draw : {R : Type 0} → Op R → Bool
is_draw (Draw dst clear rects) = true
is_draw op = false
