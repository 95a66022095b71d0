-- The bytes of exports, and how many passes are kept.
use Rattle.std.proofs.Common.{◌≡◌, ◌∙◌, ◌<◌, ◌≤◌, ℕ, Bool, true, false, List, length, nat_le, get_or, Some, None, is_some, sym, ap, ap₂, subst, arith}
use Rattle.std.proofs.lemmas.Bool.{and_parts, false≢true, leb-true}
use Rattle.std.proofs.lemmas.List.{get_or-map}
use Rattle.std.proofs.lemmas.Option.{same_Some, slice_get-get_or}
use Rattle.std.specs.Prelude.{if◌then◌else◌}
use Rattle.base.specs.Applied.{bytes_at}
use Rattle.base.specs.Shapes.{bytes_of, shape_at}
use Rattle.base.specs.declared.shape.Shape.TheVariants.{Buffer}
use Rattle.vk.specs.declared.sharing.Sharing.TheVariants.{Exclusive}
use Rattle.law_meaning.specs.Laws.{AreAsLong}
use Rattle.frame.specs.Valid.{IsValid, shapes_in}
use Rattle.frame.specs.Numbered.{NumberedFrame}
use Rattle.frame.specs.Units.{Unit as FrameUnit}
use Rattle.frame_meaning.specs.Meaning.{AreMeant, all_bytes, has_picture}
use Rattle.compile_record.specs.declared.compiled.Compiled.{Compiled}
use Rattle.program.specs.declared.program.Program.{Program}
use Rattle.top.specs.Internal.Totals.{IsTotal}
use Rattle.top.specs.Summaries.{summary_of, summary_with}
use Rattle.top.specs.declared.totals.Total.{Total}

no_unit : FrameUnit
no_unit = record { shape = Buffer 0; sharing = Exclusive; imported = None }

-- a unit has at most 16 MiB
unit_small : (frame : NumberedFrame) → IsValid frame → (unit : ℕ) → unit < length frame.units → bytes_of (shape_at (shapes_in frame) unit) ≤ 16777216
unit_small frame good unit lt =
    let shape : shape_at (shapes_in frame) unit ≡ (get_or frame.units unit no_unit).shape = get_or-map (λ (u : FrameUnit). u.shape) frame.units unit no_unit (Buffer 0) lt in
    let size : ℕ = bytes_of (get_or frame.units unit no_unit).shape in
    let small : size ≤ 16777216 = leb-true size 16777216 (and_parts (nat_le 1 size) (nat_le size 16777216) (good.sized unit no_unit lt)).1 in
    subst (λ n. n ≤ 16777216) (sym (ap bytes_of shape)) small

-- so has an export
pub export_short : (frame : NumberedFrame) → IsValid frame → AreAsLong frame → (bytes : ℕ → List ℕ) → AreMeant frame bytes → (k : ℕ) → k < length frame.exports → length (bytes k) ≤ 16777216
export_short frame good long bytes meant k lt =
    let small = unit_small frame good unit within in
    let same = ap length held in
    let size = long unit within in
    omega (arith, small, same, size)
  where
    unit : ℕ
    unit = get_or frame.exports k 0

    within : unit < length frame.units
    within = good.exports_within k 0 lt

    pictured : (has : Bool) → (if has then Some (bytes_at (all_bytes frame) unit) else None) ≡ Some (bytes k) → bytes_at (all_bytes frame) unit ≡ bytes k
    pictured true e = same_Some (bytes_at (all_bytes frame) unit) (bytes k) e
    pictured false e = absurd (false≢true (ap is_some e))

    held : bytes_at (all_bytes frame) unit ≡ bytes k
    held = pictured (has_picture frame unit) (meant k unit (slice_get-get_or frame.exports k 0 lt))

pub summary_is : (frame : NumberedFrame) (made : Compiled Program) (bytes : ℕ → List ℕ) (total : Total) (text : List ℕ) → IsTotal bytes (length frame.exports) total → text ≡ summary_with frame made total.bytes total.sum → text ≡ summary_of frame made bytes
summary_is frame made bytes total text is written = written ∙ ap₂ (λ b s. summary_with frame made b s) is.all is.summed
