-- Memories: either `size` or `import`.
use Rattle.std.specs.Prelude.{◌||◌, Bool, not, is_some, [], ◌∷◌, Ok, if◌then◌else◌, codes}
use Rattle.hex.specs.Hex.{IsBytes}
use Rattle.file_json.specs.Leaves.{whole_at, number_data, FitsWhole}
use Rattle.file_json.specs.Parts.{Reader, object_at, member_at, others_at, members_in}
use Rattle.file_json.specs.Reading.{◌>>=◌}
use Rattle.file_shapes.specs.Hexadecimal.{hex_at, hex_data}
use Rattle.program.specs.declared.program.Memory.{Memory}
use Rattle.program.specs.declared.program.Memory.TheVariants as memories
use Rattle.serde_json.specs.Data.{Data, object}
use Rattle.serde_json.specs.Find.{get}

unfoldable pub plain_at : Reader Memory
plain_at at d = do
  size ← member_at whole_at (codes "size") at d
  end ← others_at (codes "size" ∷ []) at d
  Ok (memories.Plain size)

unfoldable pub import_at : Reader Memory
import_at at d = do
  bytes ← member_at hex_at (codes "import") at d
  end ← others_at (codes "import" ∷ []) at d
  Ok (memories.Import bytes)

-- with both members it is plain, and `import` is unknown; with neither, `size` is absent
abbrev pub is_plain : Data → Bool
is_plain d = is_some (get (codes "size") d) || not (is_some (get (codes "import") d))

unfoldable pub memory_at : Reader Memory
memory_at at d = object_at at d >>= λ start. if is_plain d then plain_at at d else import_at at d

abbrev pub memory_data : Memory → Data
memory_data (memories.Plain size) = object (members_in ((codes "size", number_data size) ∷ []))
memory_data (memories.Import bytes) = object (members_in ((codes "import", hex_data bytes) ∷ []))

-- what the format says of a memory
abbrev pub FitsMemory : Memory → Type 0
FitsMemory (memories.Plain size) = FitsWhole size
FitsMemory (memories.Import bytes) = IsBytes bytes
