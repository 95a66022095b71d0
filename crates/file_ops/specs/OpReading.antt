-- The operation that a JSON value is, or the path of its first fault.
use Rattle.std.specs.Prelude.{Ok, codes}
use Rattle.base.specs.declared.op.Op.{Op}
use Rattle.base.specs.declared.op.Op.TheVariants as op
use Rattle.file_json.specs.Leaves.{whole_at, text_at}
use Rattle.file_json.specs.Parts.{Reader, object_at, member_at, optional_at, list_at, others_at}
use Rattle.file_json.specs.Reading.{◌>>=◌}
use Rattle.file_ops.specs.Funs.{fun_of}
use Rattle.file_ops.specs.Kinds.{kind_of, members_of, op_kind}
use Rattle.file_ops.specs.Rects.{rect_at}
use Rattle.file_ops.specs.declared.kind.Kind.{Kind}
use Rattle.file_ops.specs.declared.kind.Kind.TheVariants as kinds

unfoldable pub fill_buffer_at : {R : Type 0} → Reader R → Reader (Op R)
fill_buffer_at operand at d = do
  dst ← member_at operand (codes "dst") at d
  offset ← member_at whole_at (codes "offset") at d
  size ← member_at whole_at (codes "size") at d
  word ← member_at whole_at (codes "word") at d
  Ok (op.FillBuffer dst offset size word)

unfoldable pub clear_image_at : {R : Type 0} → Reader R → Reader (Op R)
clear_image_at operand at d = do
  dst ← member_at operand (codes "dst") at d
  value ← member_at whole_at (codes "value") at d
  Ok (op.ClearImage dst value)

unfoldable pub copy_buffer_at : {R : Type 0} → Reader R → Reader (Op R)
copy_buffer_at operand at d = do
  src ← member_at operand (codes "src") at d
  dst ← member_at operand (codes "dst") at d
  src_offset ← member_at whole_at (codes "src_offset") at d
  dst_offset ← member_at whole_at (codes "dst_offset") at d
  size ← member_at whole_at (codes "size") at d
  Ok (op.CopyBuffer src dst src_offset dst_offset size)

unfoldable pub copy_image_at : {R : Type 0} → Reader R → Reader (Op R)
copy_image_at operand at d = do
  src ← member_at operand (codes "src") at d
  dst ← member_at operand (codes "dst") at d
  src_x ← member_at whole_at (codes "src_x") at d
  src_y ← member_at whole_at (codes "src_y") at d
  dst_x ← member_at whole_at (codes "dst_x") at d
  dst_y ← member_at whole_at (codes "dst_y") at d
  width ← member_at whole_at (codes "width") at d
  height ← member_at whole_at (codes "height") at d
  Ok (op.CopyImage src dst src_x src_y dst_x dst_y width height)

unfoldable pub buffer_to_image_at : {R : Type 0} → Reader R → Reader (Op R)
buffer_to_image_at operand at d = do
  src ← member_at operand (codes "src") at d
  dst ← member_at operand (codes "dst") at d
  offset ← member_at whole_at (codes "offset") at d
  Ok (op.BufferToImage src dst offset)

unfoldable pub image_to_buffer_at : {R : Type 0} → Reader R → Reader (Op R)
image_to_buffer_at operand at d = do
  src ← member_at operand (codes "src") at d
  dst ← member_at operand (codes "dst") at d
  offset ← member_at whole_at (codes "offset") at d
  Ok (op.ImageToBuffer src dst offset)

unfoldable pub ramp_at : {R : Type 0} → Reader R → Reader (Op R)
ramp_at operand at d = do
  dst ← member_at operand (codes "dst") at d
  base ← member_at whole_at (codes "base") at d
  dx ← member_at whole_at (codes "dx") at d
  dy ← member_at whole_at (codes "dy") at d
  Ok (op.Ramp dst base dx dy)

unfoldable pub map_at : {R : Type 0} → Reader R → Reader (Op R)
map_at operand at d = do
  src ← member_at operand (codes "src") at d
  dst ← member_at operand (codes "dst") at d
  fun ← member_at (text_at fun_of) (codes "fun") at d
  value ← member_at whole_at (codes "value") at d
  Ok (op.Map src dst fun value)

unfoldable pub combine_at : {R : Type 0} → Reader R → Reader (Op R)
combine_at operand at d = do
  a ← member_at operand (codes "a") at d
  b ← member_at operand (codes "b") at d
  dst ← member_at operand (codes "dst") at d
  fun ← member_at (text_at fun_of) (codes "fun") at d
  Ok (op.Combine a b dst fun)

unfoldable pub select_at : {R : Type 0} → Reader R → Reader (Op R)
select_at operand at d = do
  mask ← member_at operand (codes "mask") at d
  a ← member_at operand (codes "a") at d
  b ← member_at operand (codes "b") at d
  dst ← member_at operand (codes "dst") at d
  Ok (op.Select mask a b dst)

unfoldable pub convert_at : {R : Type 0} → Reader R → Reader (Op R)
convert_at operand at d = do
  src ← member_at operand (codes "src") at d
  dst ← member_at operand (codes "dst") at d
  Ok (op.Convert src dst)

unfoldable pub box3_at : {R : Type 0} → Reader R → Reader (Op R)
box3_at operand at d = do
  src ← member_at operand (codes "src") at d
  dst ← member_at operand (codes "dst") at d
  Ok (op.Box3 src dst)

unfoldable pub halve_at : {R : Type 0} → Reader R → Reader (Op R)
halve_at operand at d = do
  src ← member_at operand (codes "src") at d
  dst ← member_at operand (codes "dst") at d
  Ok (op.Halve src dst)

unfoldable pub histogram_at : {R : Type 0} → Reader R → Reader (Op R)
histogram_at operand at d = do
  src ← member_at operand (codes "src") at d
  dst ← member_at operand (codes "dst") at d
  Ok (op.Histogram src dst)

unfoldable pub draw_at : {R : Type 0} → Reader R → Reader (Op R)
draw_at operand at d = do
  dst ← member_at operand (codes "dst") at d
  clear ← optional_at whole_at (codes "clear") at d
  rects ← member_at (list_at rect_at) (codes "rects") at d
  Ok (op.Draw dst clear rects)

-- the members of an operation of this kind, but for its word
unfoldable pub variant_at : {R : Type 0} → Reader R → Kind → Reader (Op R)
variant_at operand kinds.FillBuffer at d = fill_buffer_at operand at d
variant_at operand kinds.ClearImage at d = clear_image_at operand at d
variant_at operand kinds.CopyBuffer at d = copy_buffer_at operand at d
variant_at operand kinds.CopyImage at d = copy_image_at operand at d
variant_at operand kinds.BufferToImage at d = buffer_to_image_at operand at d
variant_at operand kinds.ImageToBuffer at d = image_to_buffer_at operand at d
variant_at operand kinds.Ramp at d = ramp_at operand at d
variant_at operand kinds.Map at d = map_at operand at d
variant_at operand kinds.Combine at d = combine_at operand at d
variant_at operand kinds.Select at d = select_at operand at d
variant_at operand kinds.Convert at d = convert_at operand at d
variant_at operand kinds.Box3 at d = box3_at operand at d
variant_at operand kinds.Halve at d = halve_at operand at d
variant_at operand kinds.Histogram at d = histogram_at operand at d
variant_at operand kinds.Draw at d = draw_at operand at d

-- an operation whose object may have further members
unfoldable pub parts_at : {R : Type 0} → Reader R → Reader (Op R)
parts_at operand at d = do
  kind ← member_at (text_at kind_of) (codes "op") at d
  variant_at operand kind at d

unfoldable pub op_at : {R : Type 0} → Reader R → Reader (Op R)
op_at operand at d = do
  start ← object_at at d
  op ← parts_at operand at d
  end ← others_at (members_of (op_kind op)) at d
  Ok op
