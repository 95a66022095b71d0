-- What a kept command loads of a unit that is no import, an earlier one stored to.
use Rattle.std.proofs.Common.{◌≡◌, ⊎_elim, ℕ, ◌<◌, ◌≤◌, ◌==◌, Bool, true, false, List, length, map, get_or, Option, Some, None, refl, sym, ap, ◌∙◌, eq-eqb, eqb-true, arith}
use Rattle.std.specs.List.{All, Contains}
use Rattle.std.specs.Option.{option_map, option_map_or}
use Rattle.std.specs.Prelude.{is_some, slice_get}
use Rattle.std.proofs.lemmas.Bool.{and_parts, cases_order, false≢true}
use Rattle.std.proofs.lemmas.List.{get_or_append_left, length-map}
use Rattle.std.proofs.lemmas.List.Folds.{list_any_at}
use Rattle.std.proofs.lemmas.Option.{get_or_from_slice_get, slice_get-map}
use Rattle.base.proofs.Absence.{none_some, some_same}
use Rattle.base.proofs.Lists.{entry_of}
use Rattle.base.proofs.Operands.{mapped_same}
use Rattle.base.specs.Operands.{destination_of, mapped, operands_of, touches}
use Rattle.base.specs.Shapes.{shape_at}
use Rattle.base.specs.Touches.{destination_role, destination_touch, touches_of}
use Rattle.base.specs.Wholes.{is_whole}
use Rattle.base.specs.declared.op.Op.{Op}
use Rattle.base.specs.declared.op.Op.TheVariants.{FillBuffer, ClearImage, CopyBuffer, CopyImage, BufferToImage, ImageToBuffer, Ramp, Map, Combine, Select, Convert, Box3, Halve, Histogram, Draw}
use Rattle.base.specs.declared.shape.Shape.{Shape}
use Rattle.base.specs.declared.shape.Shape.TheVariants.{Buffer}
use Rattle.base.specs.declared.touch.Touch.{Touch}
use Rattle.vk.specs.Roles.{load_access, store_access}
use Rattle.law_sound.proofs.Commands.{Sort, a_pass, a_copy, export_whole, not_in_place, sorts}
use Rattle.law_sound.proofs.Started.{is_started}
use Rattle.law_sound.proofs.Touches.{alike, destination_there, touch_operand}
use Rattle.law_sound.specs.Initialized.{DoesTo, IsInitialized, Loads, Stores}
use Rattle.law_sound.specs.Starts.{IsStart}
use Rattle.frame.specs.Valid as good_frames
use Rattle.frame.specs.Valid.{IsValid, shapes_in}
use Rattle.frame.specs.Numbered.{NumberedFrame}
use Rattle.frame.specs.Units.{Unit}
use Rattle.compile_groups.specs.Commands.{commands, readback_shape}
use Rattle.compile_groups.specs.Groups.{grouping}
use Rattle.compile_groups.specs.Placed.{is_import}
use Rattle.compile_groups.specs.declared.command.Command.{Command}
use Rattle.compile_groups.specs.declared.grouping.Grouping.{Grouping}
use Rattle.frame_cull.specs.Culled.{AreKept}

-- each operation stores to its destination
stores : (op : Op ℕ) → (bits : ℕ) × (store_access (destination_role op) ≡ Some bits)
stores (FillBuffer dst offset size word) = (_, refl)
stores (ClearImage dst value) = (_, refl)
stores (CopyBuffer src dst src_offset dst_offset size) = (_, refl)
stores (CopyImage src dst src_x src_y dst_x dst_y width height) = (_, refl)
stores (BufferToImage src dst offset) = (_, refl)
stores (ImageToBuffer src dst offset) = (_, refl)
stores (Ramp dst base dx dy) = (_, refl)
stores (Map src dst fun value) = (_, refl)
stores (Combine a b dst fun) = (_, refl)
stores (Select mask a b dst) = (_, refl)
stores (Convert src dst) = (_, refl)
stores (Box3 src dst) = (_, refl)
stores (Halve src dst) = (_, refl)
stores (Histogram src dst) = (_, refl)
stores (Draw dst clear rects) = (_, refl)

-- and does not load it where it stores all of it
unloaded : (f : ℕ → Shape) (op : Op ℕ) → is_whole (mapped f op) ≡ true → load_access (destination_role op) true ≡ None
unloaded f (FillBuffer dst offset size word) e = refl
unloaded f (ClearImage dst value) e = refl
unloaded f (CopyBuffer src dst src_offset dst_offset size) e = refl
unloaded f (CopyImage src dst src_x src_y dst_x dst_y width height) e = refl
unloaded f (BufferToImage src dst offset) e = refl
unloaded f (ImageToBuffer src dst offset) e = refl
unloaded f (Ramp dst base dx dy) e = refl
unloaded f (Map src dst fun value) e = refl
unloaded f (Combine a b dst fun) e = refl
unloaded f (Select mask a b dst) e = refl
unloaded f (Convert src dst) e = refl
unloaded f (Box3 src dst) e = refl
unloaded f (Halve src dst) e = refl
unloaded f (Histogram src dst) e = refl
unloaded f (Draw dst None rects) e = absurd (false≢true e)
unloaded f (Draw dst (Some value) rects) e = refl

touched_by : (shapes : List Shape) (op : Op ℕ) (t : Touch) (r : ℕ) → Contains (touches_of shapes op) t → t.what ≡ r → touches r op ≡ true
touched_by shapes op t r among is =
    let h = touch_operand shapes op t among in
    list_any_at (λ x. x == r) (operands_of op) h.0 t.what h.1 (eq-eqb (get_or (operands_of op) h.0 t.what) r (h.2 ∙ is))

module _ (frame : NumberedFrame) (kept : List Bool) (good : IsValid frame) where
  abbrev G : Grouping
  G = grouping frame kept

  sort : (c : ℕ) (command : Command) → slice_get (grouping frame kept).commands c ≡ Some command → Sort (grouping frame kept) command
  sort c command e = entry_of (Sort (grouping frame kept)) (grouping frame kept).commands c command (sorts frame kept good) e

  -- whole by the shapes of units is whole by all shapes
  whole_there : (command : Command) → Sort (grouping frame kept) command → is_whole (mapped (shape_at (shapes_in frame)) command.op) ≡ true → is_whole (mapped (shape_at (grouping frame kept).shapes) command.op) ≡ true
  whole_there command (a_copy k unit shape below lt is op from to) e = export_whole (grouping frame kept) command k (a_copy k unit shape below lt is op from to) is
  whole_there command (a_pass none operands apart) e = ap is_whole (mapped_same (shape_at (grouping frame kept).shapes) (shape_at (shapes_in frame)) command.op same) ∙ e
    where
      imports : length (grouping frame kept).imports ≡ length frame.units
      imports = length-map frame.units (λ (u : Unit). is_some u.imported)

      units : length (shapes_in frame) ≡ length frame.units
      units = length-map frame.units (λ (u : Unit). u.shape)

      same : All (λ r. shape_at (grouping frame kept).shapes r ≡ shape_at (shapes_in frame) r) (operands_of command.op)
      same i d lt =
          let low = operands i d lt in
          let one = imports in
          let two = units in
          get_or_append_left (shapes_in frame) (map (readback_shape frame) frame.exports) (Buffer 0) (get_or (operands_of command.op) i d) (omega (arith, low, one, two))

  -- no import of the groups is none of the frame
  no_import : (r : ℕ) → is_import (grouping frame kept) r ≡ false → good_frames.is_import frame.units r ≡ false
  no_import r none = go (slice_get frame.units r) refl
    where
      go : (o : Option Unit) → slice_get frame.units r ≡ o → option_map_or (λ (u : Unit). is_some u.imported) o false ≡ false
      go None e = refl
      go (Some unit) e = sym (get_or_from_slice_get (map (λ (u : Unit). is_some u.imported) frame.units) r (is_some unit.imported) false (slice_get-map (λ (u : Unit). is_some u.imported) frame.units r ∙ ap (option_map (λ (u : Unit). is_some u.imported)) e)) ∙ none

  module _ (A : AreKept frame kept) (c r : ℕ) (below : r < length (grouping frame kept).imports) (none : is_import (grouping frame kept) r ≡ false) (D : DoesTo (grouping frame kept) c r Loads) where
    started : (b : ℕ) × (b ≤ c) × IsStart (shapes_in frame) (commands frame kept) r b
    started =
        let count = length-map frame.units (λ (u : Unit). is_some u.imported) in
        is_started frame kept good A r (omega (arith, below, count)) (no_import r none) c D.command D.there (touched_by (grouping frame kept).shapes D.command.op D.touch r D.among D.unit)

    -- a command that stores the whole does not load
    not_itself : (command : Command) → D.command ≡ command → destination_of command.op ≡ r → is_whole (mapped (shape_at (shapes_in frame)) command.op) ≡ true → ⊥
    not_itself command same to whole =
        let S = sort c D.command D.there in
        let own : destination_of D.command.op ≡ r = ap (λ (x : Command). destination_of x.op) same ∙ to in
        let full = whole_there D.command S (ap (λ (x : Command). is_whole (mapped (shape_at (shapes_in frame)) x.op)) same ∙ whole) in
        let touch : D.touch ≡ destination_touch (grouping frame kept).shapes D.command.op = alike (grouping frame kept).shapes D.command.op (not_in_place (grouping frame kept) D.command S) D.touch (destination_touch (grouping frame kept).shapes D.command.op) D.among (destination_there (grouping frame kept).shapes D.command.op) (D.unit ∙ sym own) in
        let nothing : load_access D.touch.role D.touch.whole ≡ None = ap (λ (t : Touch). load_access t.role t.whole) touch ∙ ap (load_access (destination_role D.command.op)) full ∙ unloaded (shape_at (grouping frame kept).shapes) D.command.op full in
        none_some (sym nothing ∙ D.so.1)

    pub stored_before : (d : ℕ) × (d < c) × DoesTo (grouping frame kept) d r Stores
    stored_before = go started
      where
        go : (b : ℕ) × (b ≤ c) × IsStart (shapes_in frame) (commands frame kept) r b → (d : ℕ) × (d < c) × DoesTo (grouping frame kept) d r Stores
        go (b, le, I) =
            let parts = and_parts (destination_of I.command.op == r) (is_whole (mapped (shape_at (shapes_in frame)) I.command.op)) I.whole in
            let to : destination_of I.command.op ≡ r = eqb-true (destination_of I.command.op) r parts.0 in
            ⊎_elim
            (λ (e : b ≡ c). absurd (not_itself I.command (some_same (sym D.there ∙ ap (slice_get (commands frame kept)) (sym e) ∙ I.there)) to parts.1))
            (⊎_elim
            (λ (l : b < c). (b, l, record { command = I.command; there = I.there; touch = destination_touch (grouping frame kept).shapes I.command.op; among = destination_there (grouping frame kept).shapes I.command.op; unit = to; so = stores I.command.op }))
            (λ (l : c < b). absurd (omega (arith, l, le))))
            (cases_order b c)

pub is_initialized : (frame : NumberedFrame) (kept : List Bool) → IsValid frame → AreKept frame kept → IsInitialized (grouping frame kept)
is_initialized frame kept good A = λ c r below none D. stored_before frame kept good A c r below none D
