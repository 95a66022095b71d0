-- Names that nothing has, and layers that are not there.
use Rattle.std.specs.Prelude.{ℕ, List, ◌&&◌, nat_le, nat_lt, is_some, Bool, true, false, not, Option, Some, None, if◌then◌else◌}
use Rattle.std.specs.List.{position}
use Rattle.std.specs.Option.{option_or, option_map, option_map_or}
use Rattle.std.specs.Str.{bytes_eq}
use Rattle.base.specs.Operands.{operands_of}
use Rattle.base.specs.Walks.{first_in}
use Rattle.base.specs.declared.op.Op.{Op}
use Rattle.frame.specs.Members.{member_at}
use Rattle.frame.specs.Units.{Numbering, numbering, stretch_of}
use Rattle.frame.specs.declared.frame.Frame.{Frame}
use Rattle.frame.specs.declared.frame.Pass.{Pass}
use Rattle.frame.specs.declared.frame.Spot.{Spot}
use Rattle.frame.specs.declared.numbered.Stretch.{Stretch}
use Rattle.frame.specs.declared.location.Location.{Location}
use Rattle.frame.specs.declared.location.Location.TheVariants as at

abbrev pub queue_at : Frame → List ℕ → Option ℕ
queue_at frame name = position (λ q. bytes_eq q.name name) frame.queues

abbrev pub has_queue : Frame → List ℕ → Bool
has_queue frame name = is_some (queue_at frame name)

-- a layer stands at an image alone, and is one of its layers
abbrev pub has_layer : Option ℕ → Stretch → Bool
has_layer None s = true
has_layer (Some layer) s = s.is_image && nat_lt layer s.layers

-- one unit: without a layer only where there is one
abbrev pub picks_one : Option ℕ → Stretch → Bool
picks_one None s = nat_le s.layers 1
picks_one (Some layer) s = has_layer (Some layer) s

abbrev pub is_known : Numbering → Spot → Bool
is_known n spot = option_map_or (has_layer spot.layer) (stretch_of n spot.name) false

abbrev pub is_known_unit : Numbering → Spot → Bool
is_known_unit n spot = option_map_or (picks_one spot.layer) (stretch_of n spot.name) false

abbrev pub unknown_at : Numbering → ℕ → ℕ → Op Spot → ℕ → Spot → Option Location
unknown_at n p k op j spot = if is_known_unit n spot then None else Some (at.Operand p k (member_at op j))

abbrev pub unknown_operand : Numbering → ℕ → ℕ → Op Spot → Option Location
unknown_operand n p k op = first_in (unknown_at n p k op) 0 (operands_of op)

abbrev pub unknown_in : Frame → Numbering → ℕ → Pass → Option Location
unknown_in frame n p pass =
    option_or (if has_queue frame pass.queue then None else Some (at.PassQueue p))
    (option_or (option_map (λ k. at.Read p k) (position (λ spot. not (is_known n spot)) pass.reads))
    (option_or (option_map (λ k. at.Write p k) (position (λ w. not (is_known n w.what)) pass.writes))
    (first_in (unknown_operand n p) 0 pass.ops)))

abbrev pub unknown_by : Numbering → Frame → Option Location
unknown_by n frame =
    option_or (first_in (unknown_in frame n) 0 frame.passes)
    (option_map (λ i. at.Export i) (position (λ spot. not (is_known n spot)) frame.exports))

abbrev pub unknown : Frame → Option Location
unknown frame = unknown_by (numbering frame) frame
