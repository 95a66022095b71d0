-- What the items of a compiled program stand there for, which of these are wanted, and on which queue.
use Rattle.std.specs.Prelude.{◌≡◌, ℕ, suc, ◌<◌, List, length, slice_get, Bool, true, false, Some, is_some}
use Rattle.compile_barriers.specs.Prologues.{first, last}
use Rattle.compile_barriers.specs.Under.{Heap, place_of, uses_under}
use Rattle.compile_groups.specs.Groups.{shares}
use Rattle.compile_groups.specs.Needs.{group_at, goes_on}
use Rattle.compile_groups.specs.Placed.{is_import}
use Rattle.compile_groups.specs.declared.command.Command.{Command}
use Rattle.compile_groups.specs.declared.grouping.Grouping.{Grouping}
use Rattle.compile_groups.specs.declared.unit_use.Use.{Use}

-- Runs: a command, with its number. Turn, Release, Acquire: from a group, by its number, to the next group of its unit. Alias,
-- Discard: before a group that is the first of its unit. Shows: to the host, after the copy of an export, a command
pub data Reason : Type 0 where
  Runs : ℕ → Command → Reason
  Turn : ℕ → Reason
  Release : ℕ → Reason
  Acquire : ℕ → Reason
  Alias : ℕ → Reason
  Discard : ℕ → Reason
  Shows : ℕ → Command → Reason

-- the next group of the unit, where there is one, has the next number
abbrev pub next_group : Grouping → ℕ → List Use
next_group G g = group_at G (suc g)

-- WHICH ARE WANTED

-- from group g to the next one of its unit the family stays, or the unit is concurrent
abbrev pub stays : Grouping → ℕ → Bool
stays G g = shares G.families G.sharings (first (next_group G g)).unit (first (group_at G g)).queue (first (next_group G g)).queue

-- group g is the first of a unit that has a place in the heap
pub record IsFirstPlaced (G : Grouping) (g : ℕ) : Type 0 where
  pub group : g < length G.groups
  pub none_before : (h : ℕ) → suc h ≡ g → goes_on G h ≡ false
  pub placed : is_import G (first (group_at G g)).unit ≡ false

-- the last groups, together, of the units that had bytes of the unit of group g before it
abbrev pub same_bytes : Grouping → Heap → ℕ → List Use
same_bytes G heap g = uses_under G heap (place_of G (first (group_at G g)).unit)

abbrev pub IsWanted : Grouping → Heap → Reason → Type 0
IsWanted G heap (Runs c command) = slice_get G.commands c ≡ Some command
IsWanted G heap (Turn g) = (goes_on G g ≡ true) × (stays G g ≡ true)
IsWanted G heap (Release g) = (goes_on G g ≡ true) × (stays G g ≡ false)
IsWanted G heap (Acquire g) = (goes_on G g ≡ true) × (stays G g ≡ false)
IsWanted G heap (Alias g) = IsFirstPlaced G g × (0 < length (same_bytes G heap g))
IsWanted G heap (Discard g) = IsFirstPlaced G g × (is_some (first (group_at G g)).layout ≡ true)
IsWanted G heap (Shows c command) = (slice_get G.commands c ≡ Some command) × (is_some command.export ≡ true)

-- ON WHICH QUEUE

-- a release on that of its group's last member, all else on that of the first member of the group that it stands before
abbrev pub queue_for : Grouping → Reason → ℕ
queue_for G (Runs c command) = command.queue
queue_for G (Turn g) = (first (next_group G g)).queue
queue_for G (Release g) = (last (group_at G g)).queue
queue_for G (Acquire g) = (first (next_group G g)).queue
queue_for G (Alias g) = (first (group_at G g)).queue
queue_for G (Discard g) = (first (group_at G g)).queue
queue_for G (Shows c command) = command.queue
