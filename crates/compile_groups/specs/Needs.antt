-- Which command needs which, by the groups of the units that they use.
use Rattle.std.specs.Prelude.{ℕ, suc, List, [], ◌∷◌, ◌==◌, ◌&&◌, ◌||◌, nat_lt, map, length, slice_index_or, slice_get, Bool, if◌then◌else◌}
use Rattle.std.specs.List.{filter, list_any, range_with_len, position_or_len}
use Rattle.std.specs.Option.{option_map_or}
use Rattle.compile_groups.specs.Uses.{uses_of}
use Rattle.compile_groups.specs.declared.grouping.Grouping.{Grouping}
use Rattle.compile_groups.specs.declared.unit_use.Use.{Use}
use Rattle.compile_groups.specs.declared.unit_use.UseAt.{UseAt}

-- GROUPS BY THEIR NUMBERS

abbrev pub group_at : Grouping → ℕ → List Use
group_at G g = slice_index_or G.groups g []

abbrev pub has_unit : ℕ → List Use → Bool
has_unit unit uses = list_any (λ u. u.unit == unit) uses

abbrev pub has_command : ℕ → List Use → Bool
has_command c uses = list_any (λ u. u.command == c) uses

-- the group is of the unit
abbrev pub is_of : Grouping → ℕ → ℕ → Bool
is_of G unit g = has_unit unit (group_at G g)

-- both are groups of one unit
abbrev pub one_unit : List Use → List Use → Bool
one_unit A B = list_any (λ u. has_unit u.unit B) A

-- group g + 1 is the next group of the unit of group g
abbrev pub goes_on : Grouping → ℕ → Bool
goes_on G g = one_unit (group_at G g) (group_at G (suc g))

-- the groups of a unit
abbrev pub groups_of : Grouping → ℕ → List ℕ
groups_of G unit = filter (is_of G unit) (range_with_len 0 (length G.groups))

-- a command uses the unit
abbrev pub is_touched : Grouping → ℕ → Bool
is_touched G unit = list_any (has_unit unit) G.groups

-- the command's use of the unit
abbrev pub is_use : ℕ → ℕ → Use → Bool
is_use c unit u = u.command == c && u.unit == unit

-- the first of these groups that has it
abbrev pub place_of : List (List Use) → ℕ → ℕ → ℕ
place_of groups c unit = position_or_len (λ A. list_any (is_use c unit) A) groups

-- the group in which a command uses a unit
abbrev pub group_of : Grouping → ℕ → ℕ → ℕ
group_of G c unit = place_of G.groups c unit

-- COMMANDS

abbrev pub queue_of : Grouping → ℕ → ℕ
queue_of G c = option_map_or (λ command. command.queue) (slice_get G.commands c) 0

abbrev pub is_member : Grouping → ℕ → ℕ → Bool
is_member G c g = has_command c (group_at G g)

-- from each member of a group to each member of the unit's next group
abbrev pub needs : Grouping → ℕ → ℕ → Bool
needs G c d = list_any (λ g. goes_on G g && (is_member G c g && is_member G d (suc g))) (range_with_len 0 (length G.groups))

-- command d is a later one on the queue of command c, or needs it
abbrev pub leads : Grouping → ℕ → ℕ → Bool
leads G c d = (nat_lt c d && (nat_lt d (length G.commands) && queue_of G c == queue_of G d)) || needs G c d

-- the command uses the unit
abbrev pub touches : Grouping → ℕ → ℕ → Bool
touches G unit c = list_any (λ g. is_of G unit g && is_member G c g) (range_with_len 0 (length G.groups))

-- USES WITH THEIR GROUPS

-- the uses of all commands, command by command and in the order of operands
abbrev pub uses_in : Grouping → List Use
uses_in G = uses_of G.shapes (length G.sharings) 0 G.commands

abbrev pub use_at : List (List Use) → Use → UseAt
use_at groups u = record { command = u.command; operand = u.operand; resource = u.unit; group = place_of groups u.command u.unit }

abbrev pub uses_at : Grouping → List UseAt
uses_at G = map (use_at G.groups) (uses_in G)

-- the numbers, from k on, of those uses that are in group g
abbrev pub numbers_from : ℕ → List UseAt → ℕ → List ℕ
numbers_from k [] g = []
numbers_from k (u ∷ uses) g = if u.group == g then k ∷ numbers_from (suc k) uses g else numbers_from (suc k) uses g

abbrev pub numbers_in : Grouping → ℕ → List ℕ
numbers_in G g = numbers_from 0 (uses_at G) g
