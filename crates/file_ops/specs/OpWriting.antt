-- The JSON value that an operation is written as.
use Rattle.std.specs.Prelude.{ℕ, List, [], ◌∷◌, Option, Some, None, codes}
use Rattle.base.specs.declared.op.Fun.{Fun}
use Rattle.base.specs.declared.op.Op.{Op}
use Rattle.base.specs.declared.op.Op.TheVariants as op
use Rattle.base.specs.declared.op.Rect.{Rect}
use Rattle.file_json.specs.Leaves.{number_data, text_data}
use Rattle.file_json.specs.Parts.{array_of, members_in}
use Rattle.file_ops.specs.Funs.{fun_text}
use Rattle.file_ops.specs.Rects.{rect_data}
use Rattle.serde_json.specs.Data.{Data, string, object, Members}

module _ {R : Type 0} (writes : R → Data) where
  abbrev pub fill_buffer_members : R → ℕ → ℕ → ℕ → Members
  fill_buffer_members dst offset size word = members_in (
      (codes "dst", writes dst) ∷
      (codes "offset", number_data offset) ∷
      (codes "op", string (codes "fill_buffer")) ∷
      (codes "size", number_data size) ∷
      (codes "word", number_data word) ∷
      [])

  abbrev pub clear_image_members : R → ℕ → Members
  clear_image_members dst value = members_in (
      (codes "dst", writes dst) ∷
      (codes "op", string (codes "clear_image")) ∷
      (codes "value", number_data value) ∷
      [])

  abbrev pub copy_buffer_members : R → R → ℕ → ℕ → ℕ → Members
  copy_buffer_members src dst src_offset dst_offset size = members_in (
      (codes "dst", writes dst) ∷
      (codes "dst_offset", number_data dst_offset) ∷
      (codes "op", string (codes "copy_buffer")) ∷
      (codes "size", number_data size) ∷
      (codes "src", writes src) ∷
      (codes "src_offset", number_data src_offset) ∷
      [])

  abbrev pub copy_image_members : R → R → ℕ → ℕ → ℕ → ℕ → ℕ → ℕ → Members
  copy_image_members src dst src_x src_y dst_x dst_y width height = members_in (
      (codes "dst", writes dst) ∷
      (codes "dst_x", number_data dst_x) ∷
      (codes "dst_y", number_data dst_y) ∷
      (codes "height", number_data height) ∷
      (codes "op", string (codes "copy_image")) ∷
      (codes "src", writes src) ∷
      (codes "src_x", number_data src_x) ∷
      (codes "src_y", number_data src_y) ∷
      (codes "width", number_data width) ∷
      [])

  -- a copy between a buffer from an offset on and a whole image
  abbrev pub offset_members : List ℕ → R → R → ℕ → Members
  offset_members word src dst offset = members_in (
      (codes "dst", writes dst) ∷
      (codes "offset", number_data offset) ∷
      (codes "op", string word) ∷
      (codes "src", writes src) ∷
      [])

  abbrev pub ramp_members : R → ℕ → ℕ → ℕ → Members
  ramp_members dst base dx dy = members_in (
      (codes "base", number_data base) ∷
      (codes "dst", writes dst) ∷
      (codes "dx", number_data dx) ∷
      (codes "dy", number_data dy) ∷
      (codes "op", string (codes "ramp")) ∷
      [])

  abbrev pub map_members : R → R → Fun → ℕ → Members
  map_members src dst fun value = members_in (
      (codes "dst", writes dst) ∷
      (codes "fun", text_data fun_text fun) ∷
      (codes "op", string (codes "map")) ∷
      (codes "src", writes src) ∷
      (codes "value", number_data value) ∷
      [])

  abbrev pub combine_members : R → R → R → Fun → Members
  combine_members a b dst fun = members_in (
      (codes "a", writes a) ∷
      (codes "b", writes b) ∷
      (codes "dst", writes dst) ∷
      (codes "fun", text_data fun_text fun) ∷
      (codes "op", string (codes "combine")) ∷
      [])

  abbrev pub select_members : R → R → R → R → Members
  select_members mask a b dst = members_in (
      (codes "a", writes a) ∷
      (codes "b", writes b) ∷
      (codes "dst", writes dst) ∷
      (codes "mask", writes mask) ∷
      (codes "op", string (codes "select")) ∷
      [])

  -- a kernel from the whole of one operand to the whole of another
  abbrev pub whole_members : List ℕ → R → R → Members
  whole_members word src dst = members_in (
      (codes "dst", writes dst) ∷
      (codes "op", string word) ∷
      (codes "src", writes src) ∷
      [])

  abbrev pub draw_members : R → Option ℕ → List Rect → Members
  draw_members dst None rects = members_in (
      (codes "dst", writes dst) ∷
      (codes "op", string (codes "draw")) ∷
      (codes "rects", array_of rect_data rects) ∷
      [])
  draw_members dst (Some clear) rects = members_in (
      (codes "clear", number_data clear) ∷
      (codes "dst", writes dst) ∷
      (codes "op", string (codes "draw")) ∷
      (codes "rects", array_of rect_data rects) ∷
      [])

  abbrev pub op_members : Op R → Members
  op_members (op.FillBuffer dst offset size word) = fill_buffer_members dst offset size word
  op_members (op.ClearImage dst value) = clear_image_members dst value
  op_members (op.CopyBuffer src dst src_offset dst_offset size) = copy_buffer_members src dst src_offset dst_offset size
  op_members (op.CopyImage src dst src_x src_y dst_x dst_y width height) = copy_image_members src dst src_x src_y dst_x dst_y width height
  op_members (op.BufferToImage src dst offset) = offset_members (codes "buffer_to_image") src dst offset
  op_members (op.ImageToBuffer src dst offset) = offset_members (codes "image_to_buffer") src dst offset
  op_members (op.Ramp dst base dx dy) = ramp_members dst base dx dy
  op_members (op.Map src dst fun value) = map_members src dst fun value
  op_members (op.Combine a b dst fun) = combine_members a b dst fun
  op_members (op.Select mask a b dst) = select_members mask a b dst
  op_members (op.Convert src dst) = whole_members (codes "convert") src dst
  op_members (op.Box3 src dst) = whole_members (codes "box3") src dst
  op_members (op.Halve src dst) = whole_members (codes "halve") src dst
  op_members (op.Histogram src dst) = whole_members (codes "histogram") src dst
  op_members (op.Draw dst clear rects) = draw_members dst clear rects

  abbrev pub op_data : Op R → Data
  op_data o = object (op_members o)
