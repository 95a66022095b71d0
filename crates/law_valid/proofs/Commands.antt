-- The commands of a valid frame: each runs on its queue, fits the shapes, stores to no source, and uses what it names.
use Rattle.std.proofs.Common.{◌≡◌, ℕ, suc, ◌+◌, ◌<◌, ◌≤◌, ◌==◌, ◌&&◌, ◌||◌, nat_le, Bool, true, false, List, [], ◌∷◌, length, map, get_or, if◌then◌else◌, IfSome, refl, sym, ap, ap₂, ◌∙◌, subst, ne_eqb, get_or-append-add, arith}
use Rattle.std.specs.List.{All}
use Rattle.std.proofs.lemmas.Bool.{and_from, le-leb, and_parts}
use Rattle.std.proofs.lemmas.List.{get_or_append_left, get_or-map, length-append, length-map}
use Rattle.std.proofs.lemmas.List.Elements.{All-nil, All-append, All-map, All-head, All-tail}
use Rattle.std.proofs.lemmas.Option.{slice_get-get_or}
use Rattle.base.proofs.Lists.{one}
use Rattle.base.proofs.Operands.{mapped_same}
use Rattle.base.specs.Bounds.{size_allowed}
use Rattle.base.specs.Fits.{fits, is_aligned}
use Rattle.base.specs.InPlace.{in_place}
use Rattle.base.specs.Operands.{destination_of, operands_of, mapped}
use Rattle.base.specs.Runs.{runs}
use Rattle.base.specs.Shapes.{shape_at, bytes_of, is_image, has_bytes}
use Rattle.base.specs.declared.op.Op.{Op}
use Rattle.base.specs.declared.shape.Family.{Family}
use Rattle.base.specs.declared.shape.Family.TheVariants.{Graphics}
use Rattle.base.specs.declared.shape.Shape.{Shape}
use Rattle.base.specs.declared.shape.Shape.TheVariants.{Buffer, Image}
use Rattle.frame.specs.Valid.{IsValid, IsValidOp, shapes_in}
use Rattle.frame.specs.Numbered.{NumberedFrame}
use Rattle.frame.specs.Units.{Unit}
use Rattle.frame.specs.declared.numbered.NumberedPass.{NumberedPass}
use Rattle.compile_groups.proofs.Operands.{copy_destination}
use Rattle.compile_groups.specs.Commands.{on_queue, pass_commands, kept_commands, copy_out, export_queue, export_command, export_commands, readback_shape}
use Rattle.compile_groups.specs.Groups.{family_of, grouping}
use Rattle.compile_groups.specs.declared.command.Command.{Command}
use Rattle.compile_groups.specs.declared.grouping.Grouping.{Grouping}
use Rattle.law_valid.proofs.Uses.{Runs}

-- EACH COMMAND

pub kept_each : (P : Command → Type 0) (passes : List NumberedPass) (kept : List Bool) → All (λ pass. All (λ op. P (on_queue pass.queue op)) pass.ops) passes → All P (kept_commands passes kept)
kept_each P [] kept all = All-nil P
kept_each P (pass ∷ passes) [] all = All-nil P
kept_each P (pass ∷ passes) (keep ∷ kept) all =
    All-append P (if keep then pass_commands pass else []) (kept_commands passes kept)
    (own keep)
    (kept_each P passes kept (All-tail (λ (x : NumberedPass). All (λ op. P (on_queue x.queue op)) x.ops) pass passes all))
  where
    own : (b : Bool) → All P (if b then pass_commands pass else [])
    own true = All-map P (on_queue pass.queue) pass.ops (All-head (λ (x : NumberedPass). All (λ op. P (on_queue x.queue op)) x.ops) pass passes all)
    own false = All-nil P

pub exports_each : (P : Command → Type 0) (frame : NumberedFrame) (k : ℕ) (units : List ℕ) → ((j d : ℕ) → j < length units → P (export_command frame (k + j) (get_or units j d))) → All P (export_commands frame k units)
exports_each P frame k [] each = All-nil P
exports_each P frame k (unit ∷ units) each =
    let z : k + 0 ≡ k = omega arith in
    All-append P (export_command frame k unit ∷ []) (export_commands frame (suc k) units)
    (one P (export_command frame k unit) (subst (λ n. P (export_command frame n unit)) z (each 0 unit (omega arith))))
    (exports_each P frame (suc k) units (λ j d lt. let next : k + suc j ≡ suc k + j = omega arith in subst (λ n. P (export_command frame n (get_or units j d))) next (each (suc j) d (omega (arith, lt)))))

module _ (frame : NumberedFrame) (kept : List Bool) (good : IsValid frame) where
  abbrev G : Grouping
  G = grouping frame kept

  pub units_count : length (shapes_in frame) ≡ length frame.units
  units_count = length-map frame.units (λ u. u.shape)

  pub shapes_count : length G.shapes ≡ length frame.units + length frame.exports
  shapes_count = omega (arith, length-append (shapes_in frame) (map (readback_shape frame) frame.exports), units_count, length-map frame.exports (readback_shape frame))

  -- of a unit
  pub unit_shape : (r : ℕ) → r < length frame.units → shape_at G.shapes r ≡ shape_at (shapes_in frame) r
  unit_shape r lt = get_or_append_left (shapes_in frame) (map (readback_shape frame) frame.exports) (Buffer 0) r (let c = units_count in omega (arith, c, lt))

  -- of the buffer that an export is copied into
  pub export_shape : (k d : ℕ) → k < length frame.exports → shape_at G.shapes (length frame.units + k) ≡ readback_shape frame (get_or frame.exports k d)
  export_shape k d lt =
      ap (λ n. shape_at G.shapes (n + k)) (sym units_count)
      ∙ get_or-append-add (shapes_in frame) (map (readback_shape frame) frame.exports) k (Buffer 0)
      ∙ get_or-map (readback_shape frame) frame.exports k d (Buffer 0) lt

  -- what holds of the operations of passes and of the copies of exports holds of all commands
  each_command : (P : Command → Type 0)
      → ((pass : NumberedPass) (op : Op ℕ) → pass.queue < length frame.queues → All (λ unit. unit < length frame.units) (operands_of op) → IsValidOp frame pass op → P (on_queue pass.queue op))
      → ((k unit : ℕ) → k < length frame.exports → unit < length frame.units → readback_shape frame unit ≡ shape_at G.shapes (length frame.units + k) → P (export_command frame k unit))
      → All P G.commands
  each_command P of-pass of-export =
      All-append P (kept_commands frame.passes kept) (export_commands frame 0 frame.exports)
      (kept_each P frame.passes kept (λ p d lt. λ k e l.
      let pass : NumberedPass = get_or frame.passes p d in
      let within = good.within p d lt in
      of-pass pass (get_or pass.ops k e) within.queue (within.ops k e l) ((good.passes_good p d lt).ops_good k e l)))
      (exports_each P frame 0 frame.exports (λ k d lt.
      let z : k ≡ 0 + k = omega arith in
      let unit : ℕ = get_or frame.exports k d in
      subst (λ n. P (export_command frame n unit)) z (of-export k unit lt (good.exports_within k d lt) (sym (export_shape k d lt)))))

  -- RUNS

  copy_runs : (shape : Shape) (src dst : ℕ) (family : Family) → runs (copy_out shape src dst) family ≡ true
  copy_runs (Buffer size) src dst family = refl
  copy_runs (Image width height texel) src dst family = refl

  pub all_run : All (Runs G) G.commands
  all_run = each_command (Runs G)
      (λ pass op queue operands fine. fine.on_queue (family_of frame.queues pass.queue) (slice_get-get_or frame.queues pass.queue Graphics queue))
      (λ k unit lt within is. copy_runs (shape_at (shapes_in frame) unit) unit (length frame.units + k) (family_of frame.queues (export_queue frame unit)))

  -- FITS

  abbrev FitsShapes : Command → Type 0
  FitsShapes command = fits (mapped (shape_at G.shapes) command.op) ≡ true

  unit_fits : (unit : ℕ) → unit < length frame.units → size_allowed (shape_at (shapes_in frame) unit) ≡ true
  unit_fits unit lt = All-map (λ shape. size_allowed shape ≡ true) (λ (u : Unit). u.shape) frame.units good.sized unit (Buffer 0) (let c = units_count in omega (arith, c, lt))

  copy_fits : (shape : Shape) (src dst : ℕ) → shape_at G.shapes src ≡ shape → shape_at G.shapes dst ≡ Buffer (bytes_of shape) → size_allowed shape ≡ true → fits (mapped (shape_at G.shapes) (copy_out shape src dst)) ≡ true
  copy_fits (Buffer size) src dst from to allowed =
      let some : nat_le 1 size ≡ true = (and_parts (nat_le 1 size) (nat_le size 16777216) allowed).0 in
      let whole : nat_le (0 + size) size ≡ true = le-leb (0 + size) size (omega arith) in
      ap₂ (λ a b. nat_le 1 size && has_bytes a 0 size && has_bytes b 0 size) from to
      ∙ and_from (nat_le 1 size && nat_le (0 + size) size) (nat_le (0 + size) size) (and_from (nat_le 1 size) (nat_le (0 + size) size) some whole) whole
  copy_fits (Image width height texel) src dst from to allowed =
      let bytes : ℕ = bytes_of (Image width height texel) in
      let whole : nat_le (0 + bytes) bytes ≡ true = le-leb (0 + bytes) bytes (omega arith) in
      ap₂ (λ a b. is_image a && is_aligned 0 && has_bytes b 0 (bytes_of a)) from to ∙ whole

  pub all_fit : All FitsShapes G.commands
  all_fit = each_command FitsShapes
      (λ pass op queue operands fine. ap fits (mapped_same (shape_at G.shapes) (shape_at (shapes_in frame)) op (λ k d lt. unit_shape (get_or (operands_of op) k d) (operands k d lt))) ∙ fine.fitting)
      (λ k unit lt within is. copy_fits (shape_at (shapes_in frame) unit) unit (length frame.units + k) (unit_shape unit within) (sym is) (unit_fits unit within))

  -- NOT IN PLACE

  copy_apart : (shape : Shape) (src dst : ℕ) → (src == dst) ≡ false → in_place (copy_out shape src dst) ≡ false
  copy_apart (Buffer size) src dst e = ap (λ b. b || false) e
  copy_apart (Image width height texel) src dst e = ap (λ b. b || false) e

  pub none_in_place : All (λ command. in_place command.op ≡ false) G.commands
  none_in_place = each_command (λ command. in_place command.op ≡ false)
      (λ pass op queue operands fine. fine.not_in_place)
      (λ k unit lt within is. copy_apart (shape_at (shapes_in frame) unit) unit (length frame.units + k) (ne_eqb unit (length frame.units + k) (λ e. omega (arith, e, within))))

  -- WHERE EXPORTS GO

  pub exports_into : All (λ command. IfSome command.export (λ k. length frame.units ≤ destination_of command.op)) G.commands
  exports_into = each_command (λ command. IfSome command.export (λ k. length frame.units ≤ destination_of command.op))
      (λ pass op queue operands fine. tt)
      (λ k unit lt within is. subst (λ n. length frame.units ≤ n) (sym (copy_destination (shape_at (shapes_in frame) unit) unit (length frame.units + k))) (omega arith))
