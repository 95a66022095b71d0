-- Groups: uses of a unit that need no order among themselves.
use Rattle.std.specs.Prelude.{ℕ, List, [], ◌∷◌, ◌==◌, ◌&&◌, ◌||◌, not, map, length, slice_index_or, Bool, true, false, Option, Some, None, is_some, if◌then◌else◌}
use Rattle.std.specs.List.{filter, flat_map, range_with_len}
use Rattle.base.specs.declared.shape.Family.{Family}
use Rattle.base.specs.declared.shape.Family.TheVariants.{Graphics}
use Rattle.vk.specs.Families.{family_number}
use Rattle.vk.specs.Layouts.{layout_number}
use Rattle.vk.specs.Sharings.{is_shared}
use Rattle.vk.specs.declared.layout.Layout.{Layout}
use Rattle.vk.specs.declared.sharing.Sharing.{Sharing}
use Rattle.vk.specs.declared.sharing.Sharing.TheVariants.{Exclusive}
use Rattle.frame.specs.Numbered.{NumberedFrame}
use Rattle.compile_groups.specs.Commands.{commands, all_shapes}
use Rattle.compile_groups.specs.Uses.{is_write, uses_of}
use Rattle.compile_groups.specs.declared.command.Command.{Command}
use Rattle.compile_groups.specs.declared.grouping.Grouping.{Grouping}
use Rattle.compile_groups.specs.declared.unit_use.Use.{Use}

-- WHICH READS GO TOGETHER

abbrev pub family_of : List Family → ℕ → Family
family_of families q = slice_index_or families q Graphics

abbrev pub same_family : List Family → ℕ → ℕ → Bool
same_family families p q = family_number (family_of families p) == family_number (family_of families q)

abbrev pub same_layout : Option Layout → Option Layout → Bool
same_layout (Some a) (Some b) = layout_number a == layout_number b
same_layout (Some a) None = false
same_layout None (Some b) = false
same_layout None None = true

abbrev pub sharing_of : List Sharing → ℕ → Sharing
sharing_of sharings unit = slice_index_or sharings unit Exclusive

-- queues p and q may both use the unit without a transfer of ownership
abbrev pub shares : List Family → List Sharing → ℕ → ℕ → ℕ → Bool
shares families sharings unit p q = is_shared (sharing_of sharings unit) || same_family families p q

-- two reads of one unit in one layout, by queues that share it
abbrev pub joins : List Family → List Sharing → Use → Use → Bool
joins families sharings u v = not (is_write u) && (not (is_write v) && (same_layout u.layout v.layout && shares families sharings u.unit u.queue v.queue))

-- RUNS

-- a use before the runs of later ones
abbrev pub before_runs : (Use → Use → Bool) → Use → List (List Use) → List (List Use)
before_runs joins u [] = (u ∷ []) ∷ []
before_runs joins u ([] ∷ runs) = (u ∷ []) ∷ [] ∷ runs
before_runs joins u ((v ∷ run) ∷ runs) = if joins u v then (u ∷ v ∷ run) ∷ runs else (u ∷ []) ∷ (v ∷ run) ∷ runs

-- the longest runs of uses each of which joins the one before it
abbrev pub runs : (Use → Use → Bool) → List Use → List (List Use)
runs joins [] = []
runs joins (u ∷ uses) = before_runs joins u (runs joins uses)

-- those of one unit
abbrev pub unit_uses : List Use → ℕ → List Use
unit_uses uses unit = filter (λ u. u.unit == unit) uses

abbrev pub unit_groups : (Use → Use → Bool) → List Use → ℕ → List (List Use)
unit_groups joins uses unit = runs joins (unit_uses uses unit)

-- ALL OF A FRAME

-- what these commands use, in their order
abbrev pub all_uses : NumberedFrame → List Command → List Use
all_uses frame commands = uses_of (all_shapes frame) (length frame.units) 0 commands

abbrev pub sharings_in : NumberedFrame → List Sharing
sharings_in frame = map (λ u. u.sharing) frame.units

abbrev pub imports_in : NumberedFrame → List Bool
imports_in frame = map (λ u. is_some u.imported) frame.units

abbrev pub frame_joins : NumberedFrame → Use → Use → Bool
frame_joins frame = joins frame.queues (sharings_in frame)

-- of these commands; groups are numbered by unit, and then in order
abbrev pub grouped : NumberedFrame → List Command → Grouping
grouped frame commands = record {
  shapes = all_shapes frame;
  sharings = sharings_in frame;
  imports = imports_in frame;
  families = frame.queues;
  commands = commands;
  groups = flat_map (unit_groups (frame_joins frame) (all_uses frame commands)) (range_with_len 0 (length frame.units));
}

-- of a frame of which these passes are kept
abbrev pub grouping : NumberedFrame → List Bool → Grouping
grouping frame kept = grouped frame (commands frame kept)
