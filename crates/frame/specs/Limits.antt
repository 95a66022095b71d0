-- What a frame may have at most.
use Rattle.std.specs.Prelude.{ℕ, List, ◌==◌, ◌*◌, ◌-◌, not, nat_le, nat_lt, length, Bool, is_some, Option, Some, None, Result, Ok, Err, if◌then◌else◌}
use Rattle.std.specs.List.{position, find}
use Rattle.std.specs.Option.{option_or, option_map, option_map_or}
use Rattle.std.specs.Str.{bytes_eq}
use Rattle.base.specs.Bounds.{is_between, sides_allowed, size_allowed}
use Rattle.base.specs.Broken.{over_limit}
use Rattle.base.specs.Maxima.{max_queues, max_rects, max_layers, max_units, max_passes, max_ops, max_exports, max_resource_bytes}
use Rattle.base.specs.Operands.{rect_count}
use Rattle.base.specs.Shapes.{bytes_of, is_buffer}
use Rattle.base.specs.declared.broken.Broken.{Broken}
use Rattle.base.specs.declared.limit.Limit.{Limit}
use Rattle.base.specs.declared.limit.Limit.TheVariants as limits
use Rattle.base.specs.declared.op.Op.{Op}
use Rattle.base.specs.Rooms.{spend_in, not_lasting, first_over}
use Rattle.frame.specs.declared.frame.Frame.{Frame}
use Rattle.frame.specs.declared.frame.Pass.{Pass}
use Rattle.frame.specs.declared.frame.Resource.{Resource}
use Rattle.frame.specs.declared.frame.Spot.{Spot}
use Rattle.frame.specs.declared.location.Location.{Location}
use Rattle.frame.specs.declared.location.Location.TheVariants as at
use Rattle.frame.specs.declared.rule.Rule.{Rule}
use Rattle.frame.specs.declared.rule.Rule.TheVariants as rules

abbrev pub over : Limit → Location → Broken Rule Location
over limit location = over_limit rules.Limits limit location

-- a buffer has one layer, an image 1 to 8 of them
abbrev pub layers_allowed : Resource → Bool
layers_allowed r = if is_buffer r.shape then r.layers == 1 else is_between 1 max_layers r.layers

abbrev pub all_bytes : Resource → ℕ
all_bytes r = r.layers * bytes_of r.shape

abbrev pub op_count : Pass → ℕ
op_count pass = length pass.ops

-- what is left of a room of rectangles after an operation, a pass
abbrev pub spend_op : ℕ → ℕ → ℕ → Op Spot → Result ℕ Location
spend_op p room k op = if nat_lt room (rect_count op) then Err (at.Rects p k) else Ok (room - rect_count op)

abbrev pub spend_pass : ℕ → ℕ → Pass → Result ℕ Location
spend_pass room p pass = spend_in (spend_op p) room 0 pass.ops

-- the first draw with which the rectangles are more than a frame may have
abbrev pub rects_over : List Pass → Option Location
rects_over passes = not_lasting (spend_in spend_pass max_rects 0 passes)

-- how many units an export stands for: with a layer, or where nothing has its name, one
abbrev pub exported : Frame → Spot → ℕ
exported frame spot = if is_some spot.layer then 1 else option_map_or (λ r. r.layers) (find (λ r. bytes_eq r.name spot.name) frame.resources) 1

-- the limits on what stands in the lists
abbrev pub count_broken : Frame → Option (Broken Rule Location)
count_broken frame =
    option_or (option_map (λ i. over limits.Layers (at.Resource i)) (position (λ r. not (layers_allowed r)) frame.resources))
    (option_or (if is_between 1 max_queues (length frame.queues) then None else Some (over limits.Queues at.Queues))
    (option_or (option_map (λ i. over limits.Resources at.Resources) (first_over (λ r. r.layers) max_units 0 frame.resources))
    (option_or (if nat_le (length frame.passes) max_passes then None else Some (over limits.Passes at.Passes))
    (option_or (option_map (λ p. over limits.Ops (at.Ops p)) (first_over op_count max_ops 0 frame.passes))
    (option_or (option_map (over limits.Rects) (rects_over frame.passes))
    (option_map (λ i. over limits.Exports at.Exports) (first_over (exported frame) max_exports 0 frame.exports)))))))

-- the limits on each resource, and on all bytes together
abbrev pub size_broken : List Resource → Option (Broken Rule Location)
size_broken resources =
    option_or (option_map (λ i. over limits.Side (at.Resource i)) (position (λ r. not (sides_allowed r.shape)) resources))
    (option_or (option_map (λ i. over limits.Size (at.Resource i)) (position (λ r. not (size_allowed r.shape)) resources))
    (option_map (λ i. over limits.Total (at.Resource i)) (first_over all_bytes max_resource_bytes 0 resources)))

abbrev pub limit_broken : Frame → Option (Broken Rule Location)
limit_broken frame = option_or (count_broken frame) (size_broken frame.resources)
