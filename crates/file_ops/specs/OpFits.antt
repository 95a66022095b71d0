-- What the format says of an operation's parts.
use Rattle.std.specs.Prelude.{IfSome}
use Rattle.std.specs.List.{AllByRecursion}
use Rattle.base.specs.declared.op.Op.{Op}
use Rattle.base.specs.declared.op.Op.TheVariants as op
use Rattle.file_json.specs.Leaves.{FitsWhole}
use Rattle.file_ops.specs.Rects.{FitsRect}

-- from what it says of an operand
abbrev pub FitsOp : {R : Type 0} → (R → Type 0) → Op R → Type 0
FitsOp Fits (op.FillBuffer dst offset size word) = Fits dst × FitsWhole offset × FitsWhole size × FitsWhole word
FitsOp Fits (op.ClearImage dst value) = Fits dst × FitsWhole value
FitsOp Fits (op.CopyBuffer src dst src_offset dst_offset size) = Fits src × Fits dst × FitsWhole src_offset × FitsWhole dst_offset × FitsWhole size
FitsOp Fits (op.CopyImage src dst src_x src_y dst_x dst_y width height) = Fits src × Fits dst × FitsWhole src_x × FitsWhole src_y × FitsWhole dst_x × FitsWhole dst_y × FitsWhole width × FitsWhole height
FitsOp Fits (op.BufferToImage src dst offset) = Fits src × Fits dst × FitsWhole offset
FitsOp Fits (op.ImageToBuffer src dst offset) = Fits src × Fits dst × FitsWhole offset
FitsOp Fits (op.Ramp dst base dx dy) = Fits dst × FitsWhole base × FitsWhole dx × FitsWhole dy
FitsOp Fits (op.Map src dst fun value) = Fits src × Fits dst × FitsWhole value
FitsOp Fits (op.Combine a b dst fun) = Fits a × Fits b × Fits dst
FitsOp Fits (op.Select mask a b dst) = Fits mask × Fits a × Fits b × Fits dst
FitsOp Fits (op.Convert src dst) = Fits src × Fits dst
FitsOp Fits (op.Box3 src dst) = Fits src × Fits dst
FitsOp Fits (op.Halve src dst) = Fits src × Fits dst
FitsOp Fits (op.Histogram src dst) = Fits src × Fits dst
FitsOp Fits (op.Draw dst clear rects) = Fits dst × (IfSome clear FitsWhole) × (AllByRecursion FitsRect rects)
