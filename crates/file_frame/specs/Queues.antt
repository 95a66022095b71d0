-- Queues: `name`, `family`.
use Rattle.std.specs.Prelude.{[], ◌∷◌, Ok, codes}
use Rattle.base.specs.Names.{IsName}
use Rattle.file_json.specs.Leaves.{name_at, text_at, text_data, same_bytes}
use Rattle.file_json.specs.Parts.{Reader, object_at, member_at, others_at, members_in}
use Rattle.file_json.specs.Reading.{◌>>=◌}
use Rattle.frame.specs.declared.frame.QueueDecl.{QueueDecl}
use Rattle.file_shapes.specs.Families.{family_of}
use Rattle.base.specs.Families.{family_name}
use Rattle.serde_json.specs.Data.{Data, object}

unfoldable pub queue_at : Reader QueueDecl
queue_at at d = do
  start ← object_at at d
  name ← member_at name_at (codes "name") at d
  family ← member_at (text_at family_of) (codes "family") at d
  end ← others_at (codes "name" ∷ codes "family" ∷ []) at d
  Ok (record { name = name; family = family })

abbrev pub queue_data : QueueDecl → Data
queue_data queue = object (members_in (
    (codes "family", text_data family_name queue.family) ∷
    (codes "name", text_data same_bytes queue.name) ∷
    []))

-- what the format says of a queue
abbrev pub FitsQueue : QueueDecl → Type 0
FitsQueue queue = IsName queue.name
