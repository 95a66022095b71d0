-- Operations that are not drawn are told by their bytes alone.
use Rattle.std.proofs.Common.{◌≡◌, ◌≢◌, ℕ, List, false, Option, refl}
use Rattle.base.specs.declared.op.Op.{Op}
use Rattle.base.specs.declared.op.Op.TheVariants.{FillBuffer, ClearImage, CopyBuffer, CopyImage, BufferToImage, ImageToBuffer, Ramp, Map, Combine, Select, Convert, Box3, Halve, Histogram, Draw}
use Rattle.base.specs.declared.op.Rect.{Rect}
use Rattle.kernel.specs.Sources.{is_draw}

pub not_draw : (op : Op ℕ) → ((dst : ℕ) (clear : Option ℕ) (rects : List Rect) → op ≢ Draw dst clear rects) → is_draw op ≡ false
not_draw (FillBuffer dst offset size word) other = refl
not_draw (ClearImage dst value) other = refl
not_draw (CopyBuffer src dst src_offset dst_offset size) other = refl
not_draw (CopyImage src dst src_x src_y dst_x dst_y width height) other = refl
not_draw (BufferToImage src dst offset) other = refl
not_draw (ImageToBuffer src dst offset) other = refl
not_draw (Ramp dst base dx dy) other = refl
not_draw (Map src dst fun value) other = refl
not_draw (Combine a b dst fun) other = refl
not_draw (Select mask a b dst) other = refl
not_draw (Convert src dst) other = refl
not_draw (Box3 src dst) other = refl
not_draw (Halve src dst) other = refl
not_draw (Histogram src dst) other = refl
not_draw (Draw dst clear rects) other = absurd (other dst clear rects refl)
