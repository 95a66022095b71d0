-- Frames: `format`, `queues`, `resources`, `passes`, `exports`.
use Rattle.std.specs.Prelude.{ℕ, [], ◌∷◌, Ok, codes}
use Rattle.std.specs.List.{AllByRecursion}
use Rattle.file_json.specs.Leaves.{whole_at, number_data}
use Rattle.file_json.specs.Parts.{Reader, object_at, member_at, list_at, others_at, array_of, members_in}
use Rattle.file_json.specs.Reading.{◌>>=◌}
use Rattle.frame.specs.declared.frame.Frame.{Frame}
use Rattle.file_frame.specs.Passes.{pass_at, pass_data, FitsPass}
use Rattle.file_frame.specs.Queues.{queue_at, queue_data, FitsQueue}
use Rattle.file_frame.specs.Resources.{resource_at, resource_data, FitsResource}
use Rattle.file_frame.specs.Spots.{spot_at, spot_data, FitsSpot}
use Rattle.serde_json.specs.Data.{Data, object}

-- the number of the format is examined before everything else
unfoldable pub format_at : Reader ℕ
format_at at d = object_at at d >>= λ start. member_at whole_at (codes "format") at d

-- and then the other members, as this format has them
unfoldable pub frame_at : ℕ → Reader Frame
frame_at format at d = do
  queues ← member_at (list_at queue_at) (codes "queues") at d
  resources ← member_at (list_at (resource_at format)) (codes "resources") at d
  passes ← member_at (list_at (pass_at format)) (codes "passes") at d
  exports ← member_at (list_at (spot_at format)) (codes "exports") at d
  end ← others_at (codes "format" ∷ codes "queues" ∷ codes "resources" ∷ codes "passes" ∷ codes "exports" ∷ []) at d
  Ok (record { queues = queues; resources = resources; passes = passes; exports = exports })

-- a frame as it is written, in format 2
abbrev pub frame_data : Frame → Data
frame_data frame = object (members_in (
    (codes "exports", array_of spot_data frame.exports) ∷
    (codes "format", number_data 2) ∷
    (codes "passes", array_of pass_data frame.passes) ∷
    (codes "queues", array_of queue_data frame.queues) ∷
    (codes "resources", array_of resource_data frame.resources) ∷
    []))

-- what the format says of a frame, whichever file it comes from
pub record FitsFrame (frame : Frame) : Type 0 where
  pub queues : AllByRecursion FitsQueue frame.queues
  pub resources : AllByRecursion FitsResource frame.resources
  pub passes : AllByRecursion FitsPass frame.passes
  pub exports : AllByRecursion FitsSpot frame.exports
