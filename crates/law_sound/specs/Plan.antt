-- A frame as a plan. After the groups of units come two for each export: that of its copy, and that of the host's read.
use Rattle.std.specs.Prelude.{ℕ, zero, suc, ◌+◌, ◌-◌, ◌*◌, ◌/◌, ◌%◌, ◌==◌, ◌&&◌, nat_lt, not, length, slice_get, Bool, true, false, if◌then◌else◌}
use Rattle.std.specs.Option.{option_map_or}
use Rattle.law_plan.specs.Plans.{Plan}
use Rattle.compile_groups.specs.Needs.{group_at, goes_on, is_member, queue_of}
use Rattle.compile_groups.specs.Placed.{placed}
use Rattle.compile_groups.specs.declared.command.Command.{Command}
use Rattle.compile_groups.specs.declared.grouping.Grouping.{Grouping}
use Rattle.compile_record.specs.Pieces.{piece_of}
use Rattle.compile_barriers.specs.Prologues.{first}
use Rattle.compile_barriers.specs.Under.{Heap, is_under, place_of}

-- GROUPS

abbrev pub export_count : Grouping → ℕ
export_count G = length G.shapes - length G.imports

abbrev pub group_count : Grouping → ℕ
group_count G = length G.groups + export_count G * 2

abbrev pub is_of_unit : Grouping → ℕ → Bool
is_of_unit G g = nat_lt g (length G.groups)

-- group g is of an export
abbrev pub is_of_export : Grouping → ℕ → Bool
is_of_export G g = not (is_of_unit G g) && nat_lt g (group_count G)

-- the export that it is of
abbrev pub export_at : Grouping → ℕ → ℕ
export_at G g = (g - length G.groups) / 2

-- that of its copy, and that of the host's read
abbrev pub is_copy : Grouping → ℕ → Bool
is_copy G g = is_of_export G g && ((g - length G.groups) % 2 == 0)

abbrev pub is_read : Grouping → ℕ → Bool
is_read G g = is_of_export G g && ((g - length G.groups) % 2 == 1)

-- RESOURCES

-- the resource after the units that a group of no unit is of; past the last group no two are of one
abbrev pub resource_after : Grouping → ℕ → ℕ
resource_after G g = length G.imports + (if nat_lt g (group_count G) then export_at G g else g)

abbrev pub unit_of : Grouping → ℕ → ℕ
unit_of G g = (first (group_at G g)).unit

abbrev pub resource_of : Grouping → ℕ → ℕ
resource_of G g = if is_of_unit G g then unit_of G g else resource_after G g

-- MEMBERS

abbrev pub exports : ℕ → Command → Bool
exports k command = option_map_or (λ j. j == k) command.export false

-- the command copies export k
abbrev pub is_copy_of : Grouping → ℕ → ℕ → Bool
is_copy_of G k c = option_map_or (exports k) (slice_get G.commands c) false

abbrev pub uses_in_group : Grouping → ℕ → ℕ → Bool
uses_in_group G c g = if is_of_unit G g then is_member G c g else (is_copy G g && is_copy_of G (export_at G g) c)

-- ONE UNIT AFTER ANOTHER

abbrev pub is_last : Grouping → ℕ → Bool
is_last G g = not (goes_on G g)

abbrev pub is_first : Grouping → ℕ → Bool
is_first G zero = true
is_first G (suc g) = not (goes_on G g)

-- group g is of a unit that has a place in the heap
abbrev pub is_placed : Grouping → ℕ → Bool
is_placed G g = is_of_unit G g && nat_lt (place_of G (unit_of G g)) (length (placed G))

-- the unit of group g had bytes of that of group h, before it
abbrev pub unit_under : Grouping → Heap → ℕ → ℕ → Bool
unit_under G heap g h = is_under G heap (place_of G (unit_of G h)) (place_of G (unit_of G g))

abbrev pub is_over : Grouping → Heap → ℕ → ℕ → Bool
is_over G heap g h = (is_placed G g && is_last G g) && ((is_placed G h && is_first G h) && unit_under G heap g h)

-- ALL OF IT

abbrev pub plan_of : Grouping → Heap → Plan
plan_of G heap = record {
  count = length G.commands;
  queue = queue_of G;
  groups = group_count G;
  piece = λ g. piece_of G (resource_of G g);
  member = uses_in_group G;
  host = is_read G;
  over = is_over G heap;
}
