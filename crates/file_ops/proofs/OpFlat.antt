-- What an operation is written as has no float and nests little.
use Rattle.std.proofs.Common.{◌≡◌, ◌≤◌, false, arith, Some, None, refl}
use Rattle.base.specs.declared.op.Op.{Op}
use Rattle.base.specs.declared.op.Op.TheVariants as op
use Rattle.base.specs.declared.op.Rect.{Rect}
use Rattle.file_json.proofs.Flat.{IsFlat, AreFlat, items_plain, items_shallow, object_flat}
use Rattle.file_ops.specs.OpWriting.{op_members, op_data}
use Rattle.file_ops.specs.Rects.{rect_data}
use Rattle.serde_json.specs.Data.{Data, members_depth}
use Rattle.serde_json.specs.Written.{members_have_float}

rect_flat : (r : Rect) → IsFlat 1 (rect_data r)
rect_flat r = record { plain = refl; shallow = omega arith }

module _ {R : Type 0} (writes : R → Data) (flat : (x : R) → IsFlat 2 (writes x)) where
  plain : (o : Op R) → members_have_float (op_members writes o) ≡ false
  plain (op.FillBuffer dst offset size word) = rw ((flat dst).plain) refl
  plain (op.ClearImage dst value) = rw ((flat dst).plain) refl
  plain (op.CopyBuffer src dst src_offset dst_offset size) = rw ((flat src).plain, (flat dst).plain) refl
  plain (op.CopyImage src dst src_x src_y dst_x dst_y width height) = rw ((flat src).plain, (flat dst).plain) refl
  plain (op.BufferToImage src dst offset) = rw ((flat src).plain, (flat dst).plain) refl
  plain (op.ImageToBuffer src dst offset) = rw ((flat src).plain, (flat dst).plain) refl
  plain (op.Ramp dst base dx dy) = rw ((flat dst).plain) refl
  plain (op.Map src dst fun value) = rw ((flat src).plain, (flat dst).plain) refl
  plain (op.Combine a b dst fun) = rw ((flat a).plain, (flat b).plain, (flat dst).plain) refl
  plain (op.Select mask a b dst) = rw ((flat mask).plain, (flat a).plain, (flat b).plain, (flat dst).plain) refl
  plain (op.Convert src dst) = rw ((flat src).plain, (flat dst).plain) refl
  plain (op.Box3 src dst) = rw ((flat src).plain, (flat dst).plain) refl
  plain (op.Halve src dst) = rw ((flat src).plain, (flat dst).plain) refl
  plain (op.Histogram src dst) = rw ((flat src).plain, (flat dst).plain) refl
  plain (op.Draw dst None rects) = rw ((flat dst).plain, items_plain rect_data 1 rect_flat rects) refl
  plain (op.Draw dst (Some clear) rects) = rw ((flat dst).plain, items_plain rect_data 1 rect_flat rects) refl

  shallow : (o : Op R) → members_depth (op_members writes o) ≤ 2
  shallow (op.FillBuffer dst offset size word) = omega (arith, (flat dst).shallow)
  shallow (op.ClearImage dst value) = omega (arith, (flat dst).shallow)
  shallow (op.CopyBuffer src dst src_offset dst_offset size) = omega (arith, (flat src).shallow, (flat dst).shallow)
  shallow (op.CopyImage src dst src_x src_y dst_x dst_y width height) = omega (arith, (flat src).shallow, (flat dst).shallow)
  shallow (op.BufferToImage src dst offset) = omega (arith, (flat src).shallow, (flat dst).shallow)
  shallow (op.ImageToBuffer src dst offset) = omega (arith, (flat src).shallow, (flat dst).shallow)
  shallow (op.Ramp dst base dx dy) = omega (arith, (flat dst).shallow)
  shallow (op.Map src dst fun value) = omega (arith, (flat src).shallow, (flat dst).shallow)
  shallow (op.Combine a b dst fun) = omega (arith, (flat a).shallow, (flat b).shallow, (flat dst).shallow)
  shallow (op.Select mask a b dst) = omega (arith, (flat mask).shallow, (flat a).shallow, (flat b).shallow, (flat dst).shallow)
  shallow (op.Convert src dst) = omega (arith, (flat src).shallow, (flat dst).shallow)
  shallow (op.Box3 src dst) = omega (arith, (flat src).shallow, (flat dst).shallow)
  shallow (op.Halve src dst) = omega (arith, (flat src).shallow, (flat dst).shallow)
  shallow (op.Histogram src dst) = omega (arith, (flat src).shallow, (flat dst).shallow)
  shallow (op.Draw dst None rects) = omega (arith, (flat dst).shallow, items_shallow rect_data 1 rect_flat rects)
  shallow (op.Draw dst (Some clear) rects) = omega (arith, (flat dst).shallow, items_shallow rect_data 1 rect_flat rects)

  pub members_flat : (o : Op R) → AreFlat 2 (op_members writes o)
  members_flat o = record { plain = plain o; shallow = shallow o }

  pub op_flat : (o : Op R) → IsFlat 3 (op_data writes o)
  op_flat o = object_flat 2 (op_members writes o) (members_flat o)
