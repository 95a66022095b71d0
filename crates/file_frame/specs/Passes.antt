-- Passes: `name`, `queue`; and optional, `reads`, `writes`, `ops`, `side_effect`.
use Rattle.std.specs.Prelude.{ℕ, Bool, [], ◌∷◌, false, Ok, unwrap_or, codes}
use Rattle.std.specs.List.{AllByRecursion}
use Rattle.base.specs.Names.{IsName}
use Rattle.file_json.specs.Leaves.{name_at, text_data, same_bytes}
use Rattle.file_json.specs.Parts.{Reader, object_at, member_at, optional_at, list_at, others_at, array_of, members_in}
use Rattle.file_json.specs.Reading.{◌>>=◌}
use Rattle.frame.specs.declared.frame.Pass.{Pass}
use Rattle.file_frame.specs.Flags.{flag_at, flag_data}
use Rattle.file_frame.specs.Spots.{spot_at, spot_data, FitsSpot}
use Rattle.file_frame.specs.Writes.{write_at, write_data, FitsWrite}
use Rattle.file_ops.specs.OpFits.{FitsOp}
use Rattle.file_ops.specs.OpReading.{op_at}
use Rattle.file_ops.specs.OpWriting.{op_data}
use Rattle.serde_json.specs.Data.{Data, object}

unfoldable pub pass_at : ℕ → Reader Pass
pass_at format at d = do
  start ← object_at at d
  name ← member_at name_at (codes "name") at d
  queue ← member_at name_at (codes "queue") at d
  reads ← optional_at (list_at (spot_at format)) (codes "reads") at d
  writes ← optional_at (list_at (write_at format)) (codes "writes") at d
  ops ← optional_at (list_at (op_at (spot_at format))) (codes "ops") at d
  side_effect ← optional_at flag_at (codes "side_effect") at d
  end ← others_at (codes "name" ∷ codes "queue" ∷ codes "reads" ∷ codes "writes" ∷ codes "ops" ∷ codes "side_effect" ∷ []) at d
  Ok (record { name = name; queue = queue; reads = unwrap_or reads []; writes = unwrap_or writes []; ops = unwrap_or ops []; side_effect = unwrap_or side_effect false })

-- each member is written
abbrev pub pass_object : Data → Data → Data → Data → Bool → Data → Data
pass_object name ops queue reads side_effect writes = object (members_in (
    (codes "name", name) ∷
    (codes "ops", ops) ∷
    (codes "queue", queue) ∷
    (codes "reads", reads) ∷
    (codes "side_effect", flag_data side_effect) ∷
    (codes "writes", writes) ∷
    []))

abbrev pub pass_data : Pass → Data
pass_data pass = pass_object (text_data same_bytes pass.name) (array_of (op_data spot_data) pass.ops) (text_data same_bytes pass.queue) (array_of spot_data pass.reads) pass.side_effect (array_of write_data pass.writes)

-- what the format says of a pass, whichever file it comes from
pub record FitsPass (pass : Pass) : Type 0 where
  pub name : IsName pass.name
  pub queue : IsName pass.queue
  pub reads : AllByRecursion FitsSpot pass.reads
  pub writes : AllByRecursion FitsWrite pass.writes
  pub ops : AllByRecursion (FitsOp FitsSpot) pass.ops
