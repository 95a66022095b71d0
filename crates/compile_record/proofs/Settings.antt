-- What is known of the units and queues of a valid frame.
use Rattle.std.proofs.Common.{◌≡◌, ℕ, ◌+◌, ◌^◌, ◌<◌, ◌≤◌, nat_le, Bool, List, length, map, get_or, None, sym, ap, ◌∙◌, subst, arith}
use Rattle.std.specs.List.{All}
use Rattle.std.specs.Prelude.{option_and_then, is_some}
use Rattle.std.proofs.lemmas.Bool.{and_parts, leb-true}
use Rattle.std.proofs.lemmas.List.{length-append, length-map}
use Rattle.std.proofs.lemmas.List.Elements.{All-append, All-map}
use Rattle.std.proofs.lemmas.Option.{slice_get_past}
use Rattle.base.specs.Shapes.{shape_at, bytes_of}
use Rattle.base.specs.declared.shape.Shape.{Shape}
use Rattle.base.specs.declared.shape.Shape.TheVariants.{Buffer}
use Rattle.frame.specs.Valid.{IsValid, shapes_in}
use Rattle.frame.specs.Numbered.{NumberedFrame}
use Rattle.frame.specs.Units.{Unit}
use Rattle.compile_groups.specs.Commands.{readback_shape}
use Rattle.compile_groups.specs.Groups.{grouping}
use Rattle.compile_groups.specs.declared.grouping.Grouping.{Grouping}
use Rattle.compile_record.specs.Internal.Resources.{IsOf}
use Rattle.compile_record.specs.Pieces.{imported}

pub is_of : (frame : NumberedFrame) (kept : List Bool) (G : Grouping) → G ≡ grouping frame kept → IsOf frame G
is_of frame kept G is = record {
  shapes = ap (λ (H : Grouping). H.shapes) is;
  sharings = ap (λ (H : Grouping). H.sharings) is;
  imports = ap (λ (H : Grouping). H.imports) is;
  families = ap (λ (H : Grouping). H.families) is;
}

module _ (frame : NumberedFrame) (G : Grouping) (of : IsOf frame G) where
  units_count : length G.imports ≡ length frame.units
  units_count = ap length of.imports ∙ length-map frame.units (λ u. is_some u.imported)

  pub sharings_count : length G.sharings ≡ length G.imports
  sharings_count = ap length of.sharings ∙ length-map frame.units (λ u. u.sharing) ∙ sym units_count

  pub shapes_count : length G.shapes ≡ length frame.units + length frame.exports
  shapes_count = omega (arith, ap length of.shapes, length-append (shapes_in frame) (map (readback_shape frame) frame.exports), length-map frame.units (λ u. u.shape), length-map frame.exports (readback_shape frame))

  pub shapes_few : IsValid frame → length G.shapes ≤ 288
  shapes_few good =
      let units = good.few_units in
      let exports = good.few_exports in
      omega (arith, shapes_count, units, exports)

  pub families_few : IsValid frame → length G.families ≤ 4
  families_few good = let few = good.few_queues in omega (arith, ap length of.families, few)

-- SIZES

abbrev IsSmall : Shape → Type 0
IsSmall shape = bytes_of shape ≤ 16777216

units-small : (frame : NumberedFrame) → IsValid frame → All IsSmall (shapes_in frame)
units-small frame good =
    All-map IsSmall (λ (u : Unit). u.shape) frame.units
    (λ i d lt. leb-true (bytes_of (get_or frame.units i d).shape) 16777216 (and_parts (nat_le 1 (bytes_of (get_or frame.units i d).shape)) (nat_le (bytes_of (get_or frame.units i d).shape) 16777216) (good.sized i d lt)).1)

readbacks-small : (frame : NumberedFrame) → IsValid frame → All IsSmall (map (readback_shape frame) frame.exports)
readbacks-small frame good =
    All-map IsSmall (readback_shape frame) frame.exports
    (λ i d lt. units-small frame good (get_or frame.exports i d) (Buffer 0) (subst (λ n. get_or frame.exports i d < n) (sym (length-map frame.units (λ u. u.shape))) (good.exports_within i d lt)))

pub shape_fits : (frame : NumberedFrame) (G : Grouping) (r : ℕ) → IsOf frame G → IsValid frame → r < length G.shapes → bytes_of (shape_at G.shapes r) < 2 ^ 32
shape_fits frame G r of good lt =
    let all : All IsSmall G.shapes = subst (All IsSmall) (sym of.shapes) (All-append IsSmall (shapes_in frame) (map (readback_shape frame) frame.exports) (units-small frame good) (readbacks-small frame good)) in
    let here : bytes_of (shape_at G.shapes r) ≤ 16777216 = all r (Buffer 0) lt in
    omega (arith, here)

-- IMPORTS

pub none_imported : (frame : NumberedFrame) (r : ℕ) → length frame.units ≤ r → imported frame r ≡ None
none_imported frame r le = ap (option_and_then (λ u. u.imported)) (slice_get_past frame.units r le)
