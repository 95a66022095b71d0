-- What holds of the numbered frame of a frame that breaks no rule.
use Rattle.std.specs.Prelude.{◌≡◌, ◌≢◌, ◌<◌, ◌≤◌, ◌==◌, ◌&&◌, ◌||◌, ℕ, List, Bool, true, false, Some, None, map, take, length, is_some, slice_get, slice_index_or}
use Rattle.std.specs.List.{All, AllPairs, list_any, sum_by}
use Rattle.std.specs.Option.{option_map_or}
use Rattle.base.specs.Bounds.{sides_allowed, size_allowed}
use Rattle.base.specs.Fits.{fits}
use Rattle.base.specs.InPlace.{in_place}
use Rattle.base.specs.Operands.{sources_of, destination_of, mapped, rect_count}
use Rattle.base.specs.Runs.{runs}
use Rattle.base.specs.Shapes.{shape_at, bytes_of}
use Rattle.base.specs.declared.op.Op.{Op}
use Rattle.base.specs.declared.shape.Family.{Family}
use Rattle.base.specs.declared.shape.Shape.{Shape}
use Rattle.frame.specs.Limits.{layers_allowed}
use Rattle.frame.specs.Numbered.{NumberedFrame, IsWithin}
use Rattle.frame.specs.Units.{Unit}
use Rattle.frame.specs.Unknowns.{unknown}
use Rattle.frame.specs.Uses.{reads_it, writes_it, starts_whole, import_fits}
use Rattle.frame.specs.declared.frame.Frame.{Frame}
use Rattle.frame.specs.declared.numbered.NumberedPass.{NumberedPass}

abbrev pub shapes_in : NumberedFrame → List Shape
shapes_in frame = map (λ unit. unit.shape) frame.units

-- the unit holds bytes before the frame
abbrev pub is_import : List Unit → ℕ → Bool
is_import units unit = option_map_or (λ u. is_some u.imported) (slice_get units unit) false

-- the pass makes the unit new
abbrev pub renews : ℕ → NumberedPass → Bool
renews unit pass = list_any (λ w. w.fresh && w.what == unit) pass.writes

-- the unit has contents after these passes: it is an import, or one of them makes it new
abbrev pub has_contents : List Unit → List NumberedPass → ℕ → Bool
has_contents units passes unit = is_import units unit || list_any (renews unit) passes

-- an operation of a pass
pub record IsValidOp (frame : NumberedFrame) (pass : NumberedPass) (op : Op ℕ) : Type 0 where
  pub on_queue : (family : Family) → slice_get frame.queues pass.queue ≡ Some family → runs op family ≡ true
  pub declared_sources : All (λ unit. (writes_it pass unit || reads_it pass unit) ≡ true) (sources_of op)
  pub declared_destination : writes_it pass (destination_of op) ≡ true
  pub fitting : fits (mapped (shape_at (shapes_in frame)) op) ≡ true
  pub not_in_place : in_place op ≡ false

-- a pass after these others: what it reads or changes has contents, and what it makes new is stored whole first and not read
pub record IsValidPass (frame : NumberedFrame) (before : List NumberedPass) (pass : NumberedPass) : Type 0 where
  pub reads_there : All (λ unit. has_contents frame.units before unit ≡ true) pass.reads
  pub changes_there : All (λ w. w.fresh ≡ false → has_contents frame.units before w.what ≡ true) pass.writes
  pub new_whole : All (λ w. w.fresh ≡ true → starts_whole (shapes_in frame) pass.ops w.what ≡ true) pass.writes
  pub new_unread : All (λ w. w.fresh ≡ true → reads_it pass w.what ≡ false) pass.writes
  pub ops_good : All (IsValidOp frame pass) pass.ops

-- what the limits on resources, the rules on names and the rule on imports give a frame that breaks no rule
pub record IsDeclared (frame : Frame) : Type 0 where
  pub layers : All (λ r. layers_allowed r ≡ true) frame.resources
  pub sides : All (λ r. sides_allowed r.shape ≡ true) frame.resources
  pub sizes : All (λ r. size_allowed r.shape ≡ true) frame.resources
  pub imports : All (λ r. import_fits r.shape r.import ≡ true) frame.resources
  pub known : unknown frame ≡ None

pub record IsValid (frame : NumberedFrame) : Type 0 where
  pub some_queue : 0 < length frame.queues
  pub few_queues : length frame.queues ≤ 4
  pub few_passes : length frame.passes ≤ 256
  pub few_units : length frame.units ≤ 256
  pub few_exports : length frame.exports ≤ 32
  pub few_ops : sum_by (λ pass. length pass.ops) frame.passes ≤ 256
  pub few_rects : sum_by (λ pass. sum_by rect_count pass.ops) frame.passes ≤ 4096
  pub few_bytes : sum_by (λ u. bytes_of u.shape) frame.units ≤ 268435456
  pub sides : All (λ u. sides_allowed u.shape ≡ true) frame.units
  pub sized : All (λ u. size_allowed u.shape ≡ true) frame.units
  pub imports_fit : All (λ u. import_fits u.shape u.imported ≡ true) frame.units
  pub within : All (IsWithin (length frame.queues) (length frame.units)) frame.passes
  pub passes_good : (p : ℕ) (d : NumberedPass) → p < length frame.passes → IsValidPass frame (take p frame.passes) (slice_index_or frame.passes p d)
  pub exports_within : All (λ unit. unit < length frame.units) frame.exports
  pub exports_there : All (λ unit. has_contents frame.units frame.passes unit ≡ true) frame.exports
  pub exports_once : AllPairs (λ unit other. unit ≢ other) frame.exports
