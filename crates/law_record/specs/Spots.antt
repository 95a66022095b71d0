-- In which order things stand on a queue: command by command, and round each command waits, what stands before it by operand,
-- the command, releases by operand with their waits, and the barrier to the host.
use Rattle.std.specs.Prelude.{◌≡◌, ◌<◌, ℕ}
use Rattle.compile_barriers.specs.Prologues.{first, last}
use Rattle.compile_groups.specs.Needs.{group_at}
use Rattle.compile_groups.specs.declared.grouping.Grouping.{Grouping}
use Rattle.compile_groups.specs.declared.unit_use.Use.{Use}
use Rattle.law_record.specs.Reasons.{Reason, Runs, Turn, Release, Acquire, Alias, Discard, Shows, next_group}

-- round a command: 0 are its waits, 1 what stands before it, 2 is the command, 3 are the releases, and 4 is what shows its copy
-- to the host. Of one operand an alias barrier is before a barrier from UNDEFINED, and the waits for a release before it
pub record Spot : Type 0 where
  pub command : ℕ
  pub part : ℕ
  pub operand : ℕ
  pub turn : ℕ

abbrev pub spot : ℕ → ℕ → ℕ → ℕ → Spot
spot command part operand turn = record { command = command; part = part; operand = operand; turn = turn }

-- by the first number that differs
pub data Sooner (x y : Spot) : Type 0 where
  by_command : x.command < y.command → Sooner x y
  by_part : x.command ≡ y.command → x.part < y.part → Sooner x y
  by_operand : x.command ≡ y.command → x.part ≡ y.part → x.operand < y.operand → Sooner x y
  by_turn : x.command ≡ y.command → x.part ≡ y.part → x.operand ≡ y.operand → x.turn < y.turn → Sooner x y

-- before the command of a use, by its operand
abbrev pub ahead : Use → ℕ → Spot
ahead u turn = spot u.command 1 u.operand turn

-- behind it, by its operand
abbrev pub behind : Use → ℕ → Spot
behind u turn = spot u.command 3 u.operand turn

-- of an item
abbrev pub spot_for : Grouping → Reason → Spot
spot_for G (Runs c command) = spot c 2 0 0
spot_for G (Turn g) = ahead (first (next_group G g)) 0
spot_for G (Release g) = behind (last (group_at G g)) 1
spot_for G (Acquire g) = ahead (first (next_group G g)) 0
spot_for G (Alias g) = ahead (first (group_at G g)) 0
spot_for G (Discard g) = ahead (first (group_at G g)) 1
spot_for G (Shows c command) = spot c 4 0 0

-- of the waits before a command, and of those before the release of group g
abbrev pub waits_before : ℕ → Spot
waits_before c = spot c 0 0 0

abbrev pub release_waits : Grouping → ℕ → Spot
release_waits G g = behind (last (group_at G g)) 0
