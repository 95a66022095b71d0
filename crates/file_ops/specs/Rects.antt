-- Rectangles as JSON.
use Rattle.std.specs.Prelude.{[], ◌∷◌, unwrap_or, Ok, codes}
use Rattle.base.specs.declared.op.Mix.TheVariants as mixes
use Rattle.base.specs.declared.op.Rect.{Rect}
use Rattle.file_json.specs.Leaves.{whole_at, number_data, text_at, text_data, FitsWhole}
use Rattle.file_json.specs.Parts.{Reader, object_at, member_at, optional_at, others_at, members_in}
use Rattle.file_json.specs.Reading.{◌>>=◌}
use Rattle.file_ops.specs.Mixes.{mix_of, mix_text}
use Rattle.serde_json.specs.Data.{Data, object}

unfoldable pub rect_at : Reader Rect
rect_at at d = do
  start ← object_at at d
  x ← member_at whole_at (codes "x") at d
  y ← member_at whole_at (codes "y") at d
  width ← member_at whole_at (codes "width") at d
  height ← member_at whole_at (codes "height") at d
  mix ← optional_at (text_at mix_of) (codes "mix") at d
  value ← member_at whole_at (codes "value") at d
  end ← others_at (codes "x" ∷ codes "y" ∷ codes "width" ∷ codes "height" ∷ codes "mix" ∷ codes "value" ∷ []) at d
  Ok (record { x = x; y = y; width = width; height = height; mix = unwrap_or mix mixes.Set; value = value })

abbrev pub rect_data : Rect → Data
rect_data r = object (members_in (
    (codes "height", number_data r.height) ∷
    (codes "mix", text_data mix_text r.mix) ∷
    (codes "value", number_data r.value) ∷
    (codes "width", number_data r.width) ∷
    (codes "x", number_data r.x) ∷
    (codes "y", number_data r.y) ∷
    []))

pub record FitsRect (r : Rect) : Type 0 where
  pub x : FitsWhole r.x
  pub y : FitsWhole r.y
  pub width : FitsWhole r.width
  pub height : FitsWhole r.height
  pub value : FitsWhole r.value
