-- The rules on what passes do, over numbers.
use Rattle.std.specs.Prelude.{ℕ, suc, List, take, length, ◌==◌, ◌&&◌, ◌||◌, nat_lt, not, Bool, true, false, slice_get, slice_index_or, Option, Some, None, if◌then◌else◌}
use Rattle.std.specs.List.{list_any, position, find}
use Rattle.std.specs.Option.{option_or, option_map, option_map_or}
use Rattle.base.specs.Fits.{fits}
use Rattle.base.specs.InPlace.{in_place}
use Rattle.base.specs.Operands.{operands_of, destination_of, mapped, touches}
use Rattle.base.specs.Runs.{runs}
use Rattle.base.specs.Shapes.{shape_at, bytes_of, is_buffer}
use Rattle.base.specs.Walks.{first_in}
use Rattle.base.specs.Wholes.{is_whole}
use Rattle.base.specs.declared.op.Op.{Op}
use Rattle.base.specs.declared.shape.Family.{Family}
use Rattle.base.specs.declared.shape.Family.TheVariants.{Graphics}
use Rattle.base.specs.declared.shape.Shape.{Shape}
use Rattle.frame.specs.Members.{member_at}
use Rattle.frame.specs.Units.{units_in}
use Rattle.frame.specs.declared.frame.Frame.{Frame}
use Rattle.frame.specs.declared.frame.Resource.{Resource}
use Rattle.frame.specs.declared.numbered.NumberedPass.{NumberedPass}
use Rattle.frame.specs.declared.numbered.Span.{Span}
use Rattle.frame.specs.declared.numbered.Stored.{Stored}
use Rattle.frame.specs.declared.numbered.Uses.{Uses}
use Rattle.frame.specs.declared.location.Operand.TheVariants.{Dst}
use Rattle.frame.specs.declared.location.Location.{Location}
use Rattle.frame.specs.declared.location.Location.TheVariants as at
use Rattle.frame.specs.declared.rule.Rule.{Rule}
use Rattle.frame.specs.declared.rule.Rule.TheVariants as rules

-- OPERATIONS RUN ON THEIR QUEUES

abbrev pub family_of : Frame → ℕ → Family
family_of frame queue = option_map_or (λ q. q.family) (slice_get frame.queues queue) Graphics

abbrev pub stranger_in : Frame → ℕ → NumberedPass → Option Location
stranger_in frame p pass = option_map (λ k. at.Op p k) (position (λ op. not (runs op (family_of frame pass.queue))) pass.ops)

-- OPERANDS ARE DECLARED

abbrev pub writes_it : NumberedPass → ℕ → Bool
writes_it pass unit = list_any (λ w. w.what == unit) pass.writes

abbrev pub reads_it : NumberedPass → ℕ → Bool
reads_it pass unit = list_any (λ r. r == unit) pass.reads

-- operand j: a source is read or written, the destination, which is the last, is written
abbrev pub undeclared_at : NumberedPass → ℕ → ℕ → Op ℕ → ℕ → ℕ → Option Location
undeclared_at pass p k op j unit = if writes_it pass unit || (nat_lt (suc j) (length (operands_of op)) && reads_it pass unit) then None else Some (at.Operand p k (member_at op j))

abbrev pub undeclared_operand : NumberedPass → ℕ → ℕ → Op ℕ → Option Location
undeclared_operand pass p k op = first_in (undeclared_at pass p k op) 0 (operands_of op)

abbrev pub undeclared_in : ℕ → NumberedPass → Option Location
undeclared_in p pass = first_in (undeclared_operand pass p) 0 pass.ops

-- NEW CONTENTS ARE FIRST STORED WHOLE

abbrev pub stores_whole : List Shape → ℕ → Op ℕ → Bool
stores_whole shapes unit op = destination_of op == unit && is_whole (mapped (shape_at shapes) op)

-- the first of the operations that touches the unit is there, and stores the whole of it
abbrev pub starts_whole : List Shape → List (Op ℕ) → ℕ → Bool
starts_whole shapes ops unit = option_map_or (stores_whole shapes unit) (find (touches unit) ops) false

abbrev pub is_partial : List Shape → List (Op ℕ) → Span → Bool
is_partial shapes ops stored = list_any (λ unit. not (starts_whole shapes ops unit)) (units_in stored)

abbrev pub not_whole_at : List Shape → List (Op ℕ) → ℕ → ℕ → Stored → Option Location
not_whole_at shapes ops p j write = if write.fresh && is_partial shapes ops write.units then Some (at.Write p j) else None

abbrev pub not_whole_in : List Shape → ℕ → Uses → Option Location
not_whole_in shapes p uses = first_in (not_whole_at shapes uses.pass.ops p) 0 uses.writes

-- WHAT IS READ OR CHANGED WAS WRITTEN

abbrev pub makes : ℕ → Uses → Bool
makes unit uses = list_any (λ w. w.fresh && w.what == unit) uses.pass.writes

-- the mark of a unit
abbrev pub is_marked : List Bool → ℕ → Bool
is_marked marks unit = slice_index_or marks unit false

-- the unit is an import, or one of these passes makes it
abbrev pub is_there : List Bool → List Uses → ℕ → Bool
is_there imported passes unit = is_marked imported unit || list_any (makes unit) passes

abbrev pub is_missing : (ℕ → Bool) → Span → Bool
is_missing there wanted = list_any (λ unit. not (there unit)) (units_in wanted)

abbrev pub unwritten_in : (ℕ → Bool) → ℕ → Uses → Option Location
unwritten_in there p uses =
    option_or (option_map (λ k. at.Read p k) (position (is_missing there) uses.reads))
    (option_map (λ j. at.Write p j) (position (λ w. not w.fresh && is_missing there w.units) uses.writes))

-- in pass p, after the passes before it
abbrev pub unwritten_at : List Bool → List Uses → ℕ → Uses → Option Location
unwritten_at imported passes p uses = unwritten_in (is_there imported (take p passes)) p uses

abbrev pub unwritten : List Bool → List Uses → List Span → Option Location
unwritten imported passes exports =
    option_or (first_in (unwritten_at imported passes) 0 passes)
    (option_map (λ i. at.Export i) (position (is_missing (is_there imported passes)) exports))

-- IMPORTS AND OPERATIONS FIT

-- a buffer, with as many bytes
abbrev pub import_fits : Shape → Option (List ℕ) → Bool
import_fits shape None = true
import_fits shape (Some bytes) = is_buffer shape && length bytes == bytes_of shape

abbrev pub misfit_import : List Resource → Option Location
misfit_import resources = option_map (λ i. at.Import i) (position (λ r. not (import_fits r.shape r.import)) resources)

abbrev pub misfit_at : List Shape → ℕ → ℕ → Op ℕ → Option Location
misfit_at shapes p k op = if fits (mapped (shape_at shapes) op) then None else Some (at.Op p k)

abbrev pub misfit_in : List Shape → ℕ → NumberedPass → Option Location
misfit_in shapes p pass = first_in (misfit_at shapes p) 0 pass.ops

-- NOTHING IS COMPUTED IN PLACE

abbrev pub in_place_in : ℕ → NumberedPass → Option Location
in_place_in p pass = option_map (λ k. at.Operand p k Dst) (position in_place pass.ops)

-- NEW CONTENTS ARE NOT READ

abbrev pub read_new_in : ℕ → Uses → Option Location
read_new_in p uses = option_map (λ j. at.Write p j) (position (λ w. w.fresh && list_any (reads_it uses.pass) (units_in w.units)) uses.writes)

-- EACH RULE OVER ALL PASSES

-- a rule on what one pass does; the others stand above and in other files
abbrev pub use_at : Rule → Frame → List Shape → ℕ → Uses → Option Location
use_at rules.Limits frame shapes p uses = None
use_at rules.Repeated frame shapes p uses = None
use_at rules.Unknown frame shapes p uses = None
use_at rules.Unwritten frame shapes p uses = None
use_at rules.Runs frame shapes p uses = stranger_in frame p uses.pass
use_at rules.Declared frame shapes p uses = undeclared_in p uses.pass
use_at rules.Whole frame shapes p uses = not_whole_in shapes p uses
use_at rules.Fits frame shapes p uses = misfit_in shapes p uses.pass
use_at rules.InPlace frame shapes p uses = in_place_in p uses.pass
use_at rules.ReadNew frame shapes p uses = read_new_in p uses

-- the first location in the passes where a rule is broken
abbrev pub first_use : Rule → Frame → List Shape → List Uses → Option Location
first_use rule frame shapes passes = first_in (use_at rule frame shapes) 0 passes
