-- What holds of the groups of every frame.
use Rattle.std.specs.Prelude.{◌≡◌, ◌⊎◌, ℕ, List, [], ◌<◌, ◌≤◌, ◌*◌, length, slice_get, slice_index_or, true, false, Some}
use Rattle.std.specs.List.{All, AllPairs, Contains, flat_map, range_with_len}
use Rattle.base.specs.Operands.{operands_of}
use Rattle.base.specs.declared.shape.Family.{Family}
use Rattle.vk.specs.declared.sharing.Sharing.{Sharing}
use Rattle.compile_groups.specs.Groups.{shares, unit_uses}
use Rattle.compile_groups.specs.Needs.{group_at, group_of, uses_in}
use Rattle.compile_groups.specs.Placed.{sizes, AreSmall}
use Rattle.compile_groups.specs.Uses.{is_write, command_uses}
use Rattle.compile_groups.specs.declared.command.Command.{Command}
use Rattle.compile_groups.specs.declared.grouping.Grouping.{Grouping}
use Rattle.compile_groups.specs.declared.unit_use.Use.{Use}

-- THE ORDER OF GROUPS

-- of a unit below that of the other, or of the same unit by an earlier command
abbrev pub Before : Use → Use → Type 0
Before u v = (u.unit < v.unit) ⊎ ((u.unit ≡ v.unit) × (u.command < v.command))

-- all uses are of one unit
abbrev pub OfOne : List Use → Type 0
OfOne A = (unit : ℕ) × All (λ u. u.unit ≡ unit) A

-- the uses of the groups, one group after another
abbrev pub flat : {X : Type 0} → List (List X) → List X
flat groups = flat_map (λ group. group) groups

-- each group has a use and is of one unit, and all uses go up by unit and then by command
pub record InOrder (groups : List (List Use)) : Type 0 where
  pub some : All (λ A. 0 < length A) groups
  pub one : All OfOne groups
  pub sorted : AllPairs Before (flat groups)

-- of a use in one group and a use in a later one: units do not go down, and commands go up where the unit is the same
abbrev pub GroupsRise : List (List Use) → Type 0
GroupsRise groups = (g h : ℕ) → g < h → All (λ u. All (Before u) (slice_index_or groups h [])) (slice_index_or groups g [])

-- the uses of a group go up by their commands
abbrev pub MembersRise : List (List Use) → Type 0
MembersRise groups = All (AllPairs (λ u v. u.command < v.command)) groups

-- WHICH USES GO TOGETHER

-- two reads in one layout, by queues that share the unit
pub record AreTogether (families : List Family) (sharings : List Sharing) (u v : Use) : Type 0 where
  pub first : is_write u ≡ false
  pub second : is_write v ≡ false
  pub layout : u.layout ≡ v.layout
  pub shared : shares families sharings u.unit u.queue v.queue ≡ true

-- so are each two uses of a group
abbrev pub AreJoined : Grouping → Type 0
AreJoined G = All (AllPairs (AreTogether G.families G.sharings)) G.groups

-- WHICH USE IS IN WHICH GROUP

-- no use is lost, and none is told twice
abbrev pub AreWhole : Grouping → Type 0
AreWhole G = flat G.groups ≡ flat_map (unit_uses (uses_in G)) (range_with_len 0 (length G.sharings))

-- each use of a command is in the group that is found for it
pub record IsFound (G : Grouping) (u : Use) : Type 0 where
  pub group : group_of G u.command u.unit < length G.groups
  pub member : Contains (group_at G (group_of G u.command u.unit)) u

abbrev pub AreFound : Grouping → Type 0
AreFound G = All (IsFound G) (uses_in G)

-- for each use of a group that group is found
abbrev pub AreNumbered : Grouping → Type 0
AreNumbered G = (g : ℕ) → g < length G.groups → All (λ u. group_of G u.command u.unit ≡ g) (group_at G g)

-- it is use number `entry` of its command, on whose queue it is
pub record IsSourced (G : Grouping) (u : Use) : Type 0 where
  pub command : Command
  pub entry : ℕ
  pub there : slice_get G.commands u.command ≡ Some command
  pub is : slice_get (command_uses G.shapes (length G.sharings) u.command command) entry ≡ Some u
  pub queue : u.queue ≡ command.queue

-- so is each use of a group
abbrev pub AreSourced : Grouping → Type 0
AreSourced G = All (All (IsSourced G)) G.groups

-- ALL OF THEM

-- what holds of the groups of every frame
pub record IsGrouped (G : Grouping) : Type 0 where
  pub in_order : InOrder G.groups
  pub groups_rise : GroupsRise G.groups
  pub members_rise : MembersRise G.groups
  pub joined : AreJoined G
  pub whole : AreWhole G
  pub found : AreFound G
  pub numbered : AreNumbered G
  pub sourced : AreSourced G
  -- a command has at most four operands
  pub few : length G.groups ≤ 4 * length G.commands

-- of those of a valid frame: each number is that of a queue, a unit or a shape
pub record IsKnown (G : Grouping) : Type 0 where
  pub queues : All (λ command. command.queue < length G.families) G.commands
  pub operands : All (λ command. All (λ r. r < length G.shapes) (operands_of command.op)) G.commands
  pub units : All (λ u. u.unit < length G.imports) (uses_in G)
  pub members : All (All (λ u. (u.unit < length G.imports) × (u.queue < length G.families))) G.groups
  pub sharings : length G.sharings ≡ length G.imports
  pub shapes : length G.imports ≤ length G.shapes

-- and none is large
pub record IsSmall (G : Grouping) : Type 0 where
  pub few_commands : length G.commands ≤ 288
  pub few_units : length G.imports ≤ 256
  pub sizes : AreSmall (sizes G)
