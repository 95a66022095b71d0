-- The commands of a frame: the operations of its kept passes, and then a copy of each exported unit for the host.
use Rattle.std.specs.Prelude.{ℕ, suc, List, [], ◌∷◌, ◌++◌, ◌+◌, map, length, Bool, Some, None, if◌then◌else◌}
use Rattle.std.specs.Option.{option_map_or}
use Rattle.base.specs.Shapes.{shape_at, bytes_of}
use Rattle.base.specs.declared.op.Op.{Op}
use Rattle.base.specs.declared.op.Op.TheVariants.{CopyBuffer, ImageToBuffer}
use Rattle.base.specs.declared.shape.Shape.{Shape}
use Rattle.base.specs.declared.shape.Shape.TheVariants.{Buffer, Image}
use Rattle.frame.specs.Valid.{shapes_in}
use Rattle.frame.specs.Numbered.{NumberedFrame}
use Rattle.frame.specs.declared.numbered.NumberedPass.{NumberedPass}
use Rattle.compile_groups.specs.declared.command.Command.{Command}
use Rattle.frame_cull.specs.Versions.{all_versions, latest_maker, pass_at}

-- OPERATIONS OF KEPT PASSES

abbrev pub on_queue : ℕ → Op ℕ → Command
on_queue queue op = record { queue = queue; op = op; export = None }

abbrev pub pass_commands : NumberedPass → List Command
pass_commands pass = map (on_queue pass.queue) pass.ops

-- for each pass it is told whether it is kept
abbrev pub kept_commands : List NumberedPass → List Bool → List Command
kept_commands [] kept = []
kept_commands (pass ∷ passes) [] = []
kept_commands (pass ∷ passes) (keep ∷ kept) = (if keep then pass_commands pass else []) ++ kept_commands passes kept

-- COPIES OF EXPORTS

-- all bytes of a unit of this shape go into a buffer of their number
abbrev pub copy_out : Shape → ℕ → ℕ → Op ℕ
copy_out (Buffer size) src dst = CopyBuffer src dst 0 0 size
copy_out (Image width height texel) src dst = ImageToBuffer src dst 0

-- that of the pass that makes the unit's last version; queue 0 for an import that no pass writes
abbrev pub export_queue : NumberedFrame → ℕ → ℕ
export_queue frame unit = option_map_or (λ p. (pass_at frame p).queue) (latest_maker (all_versions frame unit)) 0

-- into the buffer that is numbered after all units
abbrev pub export_command : NumberedFrame → ℕ → ℕ → Command
export_command frame k unit = record {
  queue = export_queue frame unit;
  op = copy_out (shape_at (shapes_in frame) unit) unit (length frame.units + k);
  export = Some k;
}

-- of these units, which are the exports from number k on
abbrev pub export_commands : NumberedFrame → ℕ → List ℕ → List Command
export_commands frame k [] = []
export_commands frame k (unit ∷ units) = export_command frame k unit ∷ export_commands frame (suc k) units

-- ALL OF A FRAME

abbrev pub commands : NumberedFrame → List Bool → List Command
commands frame kept = kept_commands frame.passes kept ++ export_commands frame 0 frame.exports

-- the buffer that the host reads a unit from
abbrev pub readback_shape : NumberedFrame → ℕ → Shape
readback_shape frame unit = Buffer (bytes_of (shape_at (shapes_in frame) unit))

-- the shapes of the units, and then of the buffers of the exports
abbrev pub all_shapes : NumberedFrame → List Shape
all_shapes frame = shapes_in frame ++ map (readback_shape frame) frame.exports
