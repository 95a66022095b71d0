-- An operation that was written is read again.
use Rattle.std.proofs.Common.{◌≡◌, ℕ, List, Some, None, Ok, refl, codes}
use Rattle.std.specs.Prelude.{IsTrue}
use Rattle.base.specs.declared.op.Fun.{Fun}
use Rattle.base.specs.declared.op.Mix.{Mix}
use Rattle.base.specs.declared.op.Op.{Op}
use Rattle.base.specs.declared.op.Op.TheVariants as op
use Rattle.base.specs.declared.op.Rect.{Rect}
use Rattle.base.specs.declared.path.Leg.{Leg}
use Rattle.file_json.proofs.Again.{whole_again, list_again, text_again}
use Rattle.file_json.specs.Leaves.{text_at, text_data}
use Rattle.file_json.specs.Parts.{Reader, below, unknown_in}
use Rattle.file_ops.specs.Funs.{fun_of, fun_text, fun_again}
use Rattle.file_ops.specs.Kinds.{is_in, members_of, op_kind}
use Rattle.file_ops.specs.Mixes.{mix_of, mix_text, mix_again}
use Rattle.file_ops.specs.OpFits.{FitsOp}
use Rattle.file_ops.specs.OpReading.{op_at, parts_at, variant_at, fill_buffer_at, clear_image_at, copy_buffer_at, copy_image_at, buffer_to_image_at, image_to_buffer_at, ramp_at, map_at, combine_at, select_at, convert_at, box3_at, halve_at, histogram_at, draw_at}
use Rattle.file_ops.specs.OpWriting.{op_members, op_data}
use Rattle.file_ops.specs.Rects.{rect_at, rect_data, FitsRect}
use Rattle.serde_json.specs.Data.{Data}
use Rattle.serde_json.specs.Find.{get}

-- the parts below a place
module _ (at : List Leg) where
  fun_again_at : (f : Fun) → text_at fun_of (below at (codes "fun")) (text_data fun_text f) ≡ Ok f
  fun_again_at f = text_again fun_of fun_text (below at (codes "fun")) f (fun_again f tt)

  mix_again_at : (m : Mix) → text_at mix_of (below at (codes "mix")) (text_data mix_text m) ≡ Ok m
  mix_again_at m = text_again mix_of mix_text (below at (codes "mix")) m (mix_again m tt)

pub rect_again : (at : List Leg) (r : Rect) → FitsRect r → rect_at at (rect_data r) ≡ Ok r
unfolding rect_at
rect_again at r fits =
    rw (
      whole_again (below at (codes "x")) r.x fits.x,
      whole_again (below at (codes "y")) r.y fits.y,
      whole_again (below at (codes "width")) r.width fits.width,
      whole_again (below at (codes "height")) r.height fits.height,
      mix_again_at at r.mix,
      whole_again (below at (codes "value")) r.value fits.value,
    ) refl

-- the members of an operation stand in an object as they are written
abbrev pub Holds : {R : Type 0} → (R → Data) → Op R → Data → Type 0
Holds writes o d = (name : List ℕ) → IsTrue (is_in (members_of (op_kind o)) name) → get name d ≡ get name (op_data writes o)

module _ {R : Type 0} (writes : R → Data) where
  pub op_others : (at : List Leg) (o : Op R) → unknown_in (members_of (op_kind o)) at (op_members writes o) ≡ Ok tt
  op_others at (op.FillBuffer dst offset size word) = refl
  op_others at (op.ClearImage dst value) = refl
  op_others at (op.CopyBuffer src dst src_offset dst_offset size) = refl
  op_others at (op.CopyImage src dst src_x src_y dst_x dst_y width height) = refl
  op_others at (op.BufferToImage src dst offset) = refl
  op_others at (op.ImageToBuffer src dst offset) = refl
  op_others at (op.Ramp dst base dx dy) = refl
  op_others at (op.Map src dst fun value) = refl
  op_others at (op.Combine a b dst fun) = refl
  op_others at (op.Select mask a b dst) = refl
  op_others at (op.Convert src dst) = refl
  op_others at (op.Box3 src dst) = refl
  op_others at (op.Halve src dst) = refl
  op_others at (op.Histogram src dst) = refl
  op_others at (op.Draw dst None rects) = refl
  op_others at (op.Draw dst (Some clear) rects) = refl

module _ {R : Type 0} (reads : Reader R) (writes : R → Data) (Fits : R → Type 0) (again : (at : List Leg) (x : R) → Fits x → reads at (writes x) ≡ Ok x) where
  pub parts_again : (at : List Leg) (o : Op R) (d : Data) → Holds writes o d → FitsOp Fits o → parts_at reads at d ≡ Ok o
  unfolding parts_at variant_at fill_buffer_at clear_image_at copy_buffer_at copy_image_at buffer_to_image_at image_to_buffer_at ramp_at map_at combine_at select_at convert_at box3_at halve_at histogram_at draw_at
  parts_again at (op.FillBuffer dst offset size word) d h fits =
      rw (
        h (codes "op") refl,
        h (codes "dst") refl,
        h (codes "offset") refl,
        h (codes "size") refl,
        h (codes "word") refl,
        again (below at (codes "dst")) dst fits.0,
        whole_again (below at (codes "offset")) offset fits.1,
        whole_again (below at (codes "size")) size fits.2,
        whole_again (below at (codes "word")) word fits.3,
      ) refl
  parts_again at (op.ClearImage dst value) d h fits =
      rw (
        h (codes "op") refl,
        h (codes "dst") refl,
        h (codes "value") refl,
        again (below at (codes "dst")) dst fits.0,
        whole_again (below at (codes "value")) value fits.1,
      ) refl
  parts_again at (op.CopyBuffer src dst src_offset dst_offset size) d h fits =
      rw (
        h (codes "op") refl,
        h (codes "src") refl,
        h (codes "dst") refl,
        h (codes "src_offset") refl,
        h (codes "dst_offset") refl,
        h (codes "size") refl,
        again (below at (codes "src")) src fits.0,
        again (below at (codes "dst")) dst fits.1,
        whole_again (below at (codes "src_offset")) src_offset fits.2,
        whole_again (below at (codes "dst_offset")) dst_offset fits.3,
        whole_again (below at (codes "size")) size fits.4,
      ) refl
  parts_again at (op.CopyImage src dst src_x src_y dst_x dst_y width height) d h fits =
      rw (
        h (codes "op") refl,
        h (codes "src") refl,
        h (codes "dst") refl,
        h (codes "src_x") refl,
        h (codes "src_y") refl,
        h (codes "dst_x") refl,
        h (codes "dst_y") refl,
        h (codes "width") refl,
        h (codes "height") refl,
        again (below at (codes "src")) src fits.0,
        again (below at (codes "dst")) dst fits.1,
        whole_again (below at (codes "src_x")) src_x fits.2,
        whole_again (below at (codes "src_y")) src_y fits.3,
        whole_again (below at (codes "dst_x")) dst_x fits.4,
        whole_again (below at (codes "dst_y")) dst_y fits.5,
        whole_again (below at (codes "width")) width fits.6,
        whole_again (below at (codes "height")) height fits.7,
      ) refl
  parts_again at (op.BufferToImage src dst offset) d h fits =
      rw (
        h (codes "op") refl,
        h (codes "src") refl,
        h (codes "dst") refl,
        h (codes "offset") refl,
        again (below at (codes "src")) src fits.0,
        again (below at (codes "dst")) dst fits.1,
        whole_again (below at (codes "offset")) offset fits.2,
      ) refl
  parts_again at (op.ImageToBuffer src dst offset) d h fits =
      rw (
        h (codes "op") refl,
        h (codes "src") refl,
        h (codes "dst") refl,
        h (codes "offset") refl,
        again (below at (codes "src")) src fits.0,
        again (below at (codes "dst")) dst fits.1,
        whole_again (below at (codes "offset")) offset fits.2,
      ) refl
  parts_again at (op.Ramp dst base dx dy) d h fits =
      rw (
        h (codes "op") refl,
        h (codes "dst") refl,
        h (codes "base") refl,
        h (codes "dx") refl,
        h (codes "dy") refl,
        again (below at (codes "dst")) dst fits.0,
        whole_again (below at (codes "base")) base fits.1,
        whole_again (below at (codes "dx")) dx fits.2,
        whole_again (below at (codes "dy")) dy fits.3,
      ) refl
  parts_again at (op.Map src dst fun value) d h fits =
      rw (
        h (codes "op") refl,
        h (codes "src") refl,
        h (codes "dst") refl,
        h (codes "fun") refl,
        h (codes "value") refl,
        again (below at (codes "src")) src fits.0,
        again (below at (codes "dst")) dst fits.1,
        fun_again_at at fun,
        whole_again (below at (codes "value")) value fits.2,
      ) refl
  parts_again at (op.Combine a b dst fun) d h fits =
      rw (
        h (codes "op") refl,
        h (codes "a") refl,
        h (codes "b") refl,
        h (codes "dst") refl,
        h (codes "fun") refl,
        again (below at (codes "a")) a fits.0,
        again (below at (codes "b")) b fits.1,
        again (below at (codes "dst")) dst fits.2,
        fun_again_at at fun,
      ) refl
  parts_again at (op.Select mask a b dst) d h fits =
      rw (
        h (codes "op") refl,
        h (codes "mask") refl,
        h (codes "a") refl,
        h (codes "b") refl,
        h (codes "dst") refl,
        again (below at (codes "mask")) mask fits.0,
        again (below at (codes "a")) a fits.1,
        again (below at (codes "b")) b fits.2,
        again (below at (codes "dst")) dst fits.3,
      ) refl
  parts_again at (op.Convert src dst) d h fits =
      rw (
        h (codes "op") refl,
        h (codes "src") refl,
        h (codes "dst") refl,
        again (below at (codes "src")) src fits.0,
        again (below at (codes "dst")) dst fits.1,
      ) refl
  parts_again at (op.Box3 src dst) d h fits =
      rw (
        h (codes "op") refl,
        h (codes "src") refl,
        h (codes "dst") refl,
        again (below at (codes "src")) src fits.0,
        again (below at (codes "dst")) dst fits.1,
      ) refl
  parts_again at (op.Halve src dst) d h fits =
      rw (
        h (codes "op") refl,
        h (codes "src") refl,
        h (codes "dst") refl,
        again (below at (codes "src")) src fits.0,
        again (below at (codes "dst")) dst fits.1,
      ) refl
  parts_again at (op.Histogram src dst) d h fits =
      rw (
        h (codes "op") refl,
        h (codes "src") refl,
        h (codes "dst") refl,
        again (below at (codes "src")) src fits.0,
        again (below at (codes "dst")) dst fits.1,
      ) refl
  parts_again at (op.Draw dst None rects) d h fits =
      rw (
        h (codes "op") refl,
        h (codes "dst") refl,
        h (codes "clear") refl,
        h (codes "rects") refl,
        again (below at (codes "dst")) dst fits.0,
        list_again rect_at rect_data FitsRect rect_again (below at (codes "rects")) rects fits.2,
      ) refl
  parts_again at (op.Draw dst (Some clear) rects) d h fits =
      rw (
        h (codes "op") refl,
        h (codes "dst") refl,
        h (codes "clear") refl,
        h (codes "rects") refl,
        again (below at (codes "dst")) dst fits.0,
        whole_again (below at (codes "clear")) clear fits.1,
        list_again rect_at rect_data FitsRect rect_again (below at (codes "rects")) rects fits.2,
      ) refl

  pub op_again : (at : List Leg) (o : Op R) → FitsOp Fits o → op_at reads at (op_data writes o) ≡ Ok o
  unfolding op_at
  op_again at o fits = rw (parts_again at o (op_data writes o) (λ name known. refl) fits, op_others writes at o) refl
