-- The commands of a frame: operations of passes on units, and for each export one copy of it.
use Rattle.std.proofs.Common.{◌≡◌, ⊎_elim, ℕ, ◌+◌, ◌<◌, ◌≤◌, ◌==◌, ◌||◌, Bool, true, false, List, length, map, get_or, slice_get, Option, Some, None, refl, sym, ap, ◌∙◌, subst, ne_eqb, ap₂, eq-eqb, arith}
use Rattle.std.specs.List.{All}
use Rattle.std.specs.Prelude.{is_some}
use Rattle.std.proofs.lemmas.Bool.{cases_lt, false≢true}
use Rattle.std.proofs.lemmas.List.{get_or-append-add, get_or-map, get_or_past, get_or_append_left, length-append, length-map}
use Rattle.std.proofs.lemmas.List.Elements.{All-append}
use Rattle.std.proofs.lemmas.Option.{get_or_from_slice_get}
use Rattle.base.proofs.Absence.{none_some}
use Rattle.base.proofs.Lists.{entry_of}
use Rattle.base.specs.InPlace.{in_place}
use Rattle.base.specs.Operands.{operands_of, mapped}
use Rattle.base.specs.Shapes.{bytes_of, is_image, shape_at}
use Rattle.base.specs.Wholes.{is_whole}
use Rattle.base.specs.declared.shape.Shape.{Shape}
use Rattle.base.specs.declared.shape.Shape.TheVariants.{Buffer, Image}
use Rattle.law_sound.specs.Plan.{export_count}
use Rattle.frame.specs.Valid.{IsValid, shapes_in}
use Rattle.frame.specs.Numbered.{NumberedFrame}
use Rattle.frame.specs.Units.{Unit}
use Rattle.frame.specs.Uses.{import_fits}
use Rattle.frame.specs.declared.numbered.NumberedPass.{NumberedPass}
use Rattle.compile_groups.specs.Commands.{kept_commands, copy_out, export_command, export_commands, readback_shape}
use Rattle.compile_groups.specs.Groups.{grouping}
use Rattle.compile_groups.specs.Placed.{is_import}
use Rattle.compile_groups.specs.declared.command.Command.{Command}
use Rattle.compile_groups.specs.declared.grouping.Grouping.{Grouping}
use Rattle.compile_record.proofs.Entries.{entry_there}
use Rattle.law_valid.proofs.Commands.{kept_each, exports_each}

-- an operation of a pass, on units alone, or the copy of an export into the buffer after the units
pub data Sort (G : Grouping) (command : Command) : Type 0 where
  a_pass : command.export ≡ None → All (λ r. r < length G.imports) (operands_of command.op) → in_place command.op ≡ false → Sort G command
  a_copy : (k unit : ℕ) (shape : Shape) → k < export_count G → unit < length G.imports → command.export ≡ Some k → command.op ≡ copy_out shape unit (length G.imports + k) → shape_at G.shapes unit ≡ shape → shape_at G.shapes (length G.imports + k) ≡ Buffer (bytes_of shape) → Sort G command

-- EACH COMMAND

-- a copy is not in place
copy_apart : (shape : Shape) (src dst : ℕ) → (src == dst) ≡ false → in_place (copy_out shape src dst) ≡ false
copy_apart (Buffer size) src dst e = ap (λ b. b || false) e
copy_apart (Image width height texel) src dst e = ap (λ b. b || false) e

pub not_in_place : (G : Grouping) (command : Command) → Sort G command → in_place command.op ≡ false
not_in_place G command (a_pass none operands apart) = apart
not_in_place G command (a_copy k unit shape below lt is op from to) = ap in_place op ∙ copy_apart shape unit (length G.imports + k) (ne_eqb unit (length G.imports + k) (λ e. omega (arith, e, lt)))

-- a copy stores all of the buffer
copy_whole : (shapes : ℕ → Shape) (shape : Shape) (src dst : ℕ) → shapes src ≡ shape → shapes dst ≡ Buffer (bytes_of shape) → is_whole (mapped shapes (copy_out shape src dst)) ≡ true
copy_whole shapes (Buffer size) src dst from to = ap (λ s. size == bytes_of s) to ∙ eq-eqb size size refl
copy_whole shapes (Image width height texel) src dst from to = ap₂ (λ a b. bytes_of a == bytes_of b) from to ∙ eq-eqb (bytes_of (Image width height texel)) (bytes_of (Image width height texel)) refl

pub export_whole : (G : Grouping) (command : Command) (k : ℕ) → Sort G command → command.export ≡ Some k → is_whole (mapped (shape_at G.shapes) command.op) ≡ true
export_whole G command k (a_pass none operands apart) is = absurd (none_some (sym none ∙ is))
export_whole G command k (a_copy j unit shape below lt e op from to) is = ap (λ o. is_whole (mapped (shape_at G.shapes) o)) op ∙ copy_whole (shape_at G.shapes) shape unit (length G.imports + j) from to

module _ (frame : NumberedFrame) (kept : List Bool) where
  abbrev G : Grouping
  G = grouping frame kept

  abbrev passes : List Command
  passes = kept_commands frame.passes kept

  abbrev copies : List Command
  copies = export_commands frame 0 frame.exports

  module _ (good : IsValid frame) where
    pub imports_count : length G.imports ≡ length frame.units
    imports_count = length-map frame.units (λ u. is_some u.imported)

    exports_count : export_count G ≡ length frame.exports
    exports_count =
        let total = length-append (shapes_in frame) (map (readback_shape frame) frame.exports) in
        let units = length-map frame.units (λ u. u.shape) in
        let exports = length-map frame.exports (readback_shape frame) in
        let imports = imports_count in
        omega (arith, total, units, exports, imports)

    units_count : length (shapes_in frame) ≡ length frame.units
    units_count = length-map frame.units (λ u. u.shape)

    pub sorts : All (Sort G) G.commands
    sorts = All-append (Sort G) passes copies
        (kept_each (Sort G) frame.passes kept (λ p d lt. λ k e l.
        let pass : NumberedPass = get_or frame.passes p d in
        let same = imports_count in
        a_pass refl
        (λ j r below. let low = (good.within p d lt).ops k e l j r below in omega (arith, low, same))
        (((good.passes_good p d lt).ops_good k e l).not_in_place)))
        (exports_each (Sort G) frame 0 frame.exports (λ k d lt.
        let z : k ≡ 0 + k = omega arith in
        let unit : ℕ = get_or frame.exports k d in
        let same = imports_count in
        let count = exports_count in
        let low = good.exports_within k d lt in
        subst (λ n. Sort G (export_command frame n unit)) z
        (a_copy k unit (shape_at (shapes_in frame) unit) (omega (arith, lt, count)) (omega (arith, low, same)) refl
        (ap (λ n. copy_out (shape_at (shapes_in frame) unit) unit (n + k)) (sym same))
        (get_or_append_left (shapes_in frame) (map (readback_shape frame) frame.exports) (Buffer 0) unit (let units = units_count in omega (arith, units, low)))
        (ap (λ n. shape_at G.shapes (n + k)) (same ∙ sym units_count)
        ∙ get_or-append-add (shapes_in frame) (map (readback_shape frame) frame.exports) k (Buffer 0)
        ∙ get_or-map (readback_shape frame) frame.exports k d (Buffer 0) lt))))

    -- SHAPES

    -- the buffer of an export is no image
    pub buffers_plain : (k : ℕ) → k < export_count G → is_image (shape_at G.shapes (length G.imports + k)) ≡ false
    buffers_plain k lt =
        let count = exports_count in
        let low : k < length frame.exports = omega (arith, lt, count) in
        ap (λ n. is_image (shape_at G.shapes (n + k))) (imports_count ∙ sym units_count)
        ∙ ap is_image (get_or-append-add (shapes_in frame) (map (readback_shape frame) frame.exports) k (Buffer 0) ∙ get_or-map (readback_shape frame) frame.exports k 0 (Buffer 0) low)

    no_image : (shape : Shape) (imported : Option (List ℕ)) → is_some imported ≡ true → import_fits shape imported ≡ true → is_image shape ≡ false
    no_image (Buffer size) imported s fit = refl
    no_image (Image width height texel) None s fit = absurd (false≢true s)
    no_image (Image width height texel) (Some bytes) s fit = absurd (false≢true fit)

    none_past : (unit : ℕ) → length frame.units ≤ unit → is_import G unit ≡ false
    none_past unit le = get_or_past G.imports unit false (let count = imports_count in omega (arith, count, le))

    -- nor is an import
    pub imports_plain : (unit : ℕ) → is_import G unit ≡ true → is_image (shape_at G.shapes unit) ≡ false
    imports_plain unit e = ⊎_elim within (λ le. absurd (false≢true (sym (none_past unit le) ∙ e))) (cases_lt unit (length frame.units))
      where
        within : unit < length frame.units → is_image (shape_at G.shapes unit) ≡ false
        within lt = of_there (entry_there frame.units unit lt)
          where
            of_there : (u : Unit) × (slice_get frame.units unit ≡ Some u) → is_image (shape_at G.shapes unit) ≡ false
            of_there (u, at) =
                let got : get_or frame.units unit u ≡ u = get_or_from_slice_get frame.units unit u u at in
                let count = units_count in
                let shape : shape_at G.shapes unit ≡ u.shape =
                get_or_append_left (shapes_in frame) (map (readback_shape frame) frame.exports) (Buffer 0) unit (omega (arith, count, lt))
                ∙ get_or-map (λ (x : Unit). x.shape) frame.units unit u (Buffer 0) lt ∙ ap (λ (x : Unit). x.shape) got in
                let own : is_some u.imported ≡ true = sym (get_or-map (λ (x : Unit). is_some x.imported) frame.units unit u false lt ∙ ap (λ (x : Unit). is_some x.imported) got) ∙ e in
                ap is_image shape ∙ no_image u.shape u.imported own (entry_of (λ (x : Unit). import_fits x.shape x.imported ≡ true) frame.units unit u good.imports_fit at)
