-- Which waits are wanted: on which queue, at which spot, and for which item of another queue.
use Rattle.std.specs.Prelude.{◌≡◌, ◌≢◌, ℕ, suc, ◌<◌, List, length, slice_get, false, Some, is_some}
use Rattle.compile_barriers.specs.Prologues.{first, last}
use Rattle.compile_barriers.specs.Under.{Heap}
use Rattle.compile_barriers.specs.Unions.{on}
use Rattle.compile_groups.specs.Needs.{group_at}
use Rattle.compile_groups.specs.declared.command.Command.{Command}
use Rattle.compile_groups.specs.declared.grouping.Grouping.{Grouping}
use Rattle.compile_groups.specs.declared.unit_use.Use.{Use}
use Rattle.law_record.specs.Reasons.{Reason, Runs, Turn, Release, Acquire, Alias, Discard, IsWanted, next_group, queue_for}
use Rattle.law_record.specs.Spots.{Spot, waits_before, release_waits}

-- the last of the uses A on a queue other than q
pub record IsLastElsewhere (G : Grouping) (A : List Use) (q : ℕ) (item : Reason) : Type 0 where
  pub queue : ℕ
  pub known : queue < length G.families
  pub other : queue ≢ q
  pub some : 0 < length (on queue A)
  pub command : Command
  pub there : slice_get G.commands (last (on queue A)).command ≡ Some command
  pub is : item ≡ Runs (last (on queue A)).command command

-- what stands before group g, the later one where there are two
pub data Enters (G : Grouping) (g : ℕ) : Reason → Type 0 where
  by_turn : (h : ℕ) → suc h ≡ g → Enters G g (Turn h)
  by_acquire : (h : ℕ) → suc h ≡ g → Enters G g (Acquire h)
  by_discard : Enters G g (Discard g)
  by_alias : is_some (first (group_at G g)).layout ≡ false → Enters G g (Alias g)

-- queue q waits at a spot for an item. Before a turn and before a release: for the last members of the group before it on other
-- queues. Before an acquire: for its release. Before the first member of a group on a further queue: for what stands before
-- that group. An alias barrier needs no wait of its own, and the first group of an import has nothing to wait for
pub data IsWaitWanted (G : Grouping) (heap : Heap) (q : ℕ) (at : Spot) (item : Reason) : Type 0 where
  for_turn : (g : ℕ) → IsWanted G heap (Turn g) → q ≡ queue_for G (Turn g) → at ≡ waits_before (first (next_group G g)).command → IsLastElsewhere G (group_at G g) q item → IsWaitWanted G heap q at item
  for_release : (g : ℕ) → IsWanted G heap (Release g) → q ≡ queue_for G (Release g) → at ≡ release_waits G g → IsLastElsewhere G (group_at G g) q item → IsWaitWanted G heap q at item
  for_acquire : (g : ℕ) → IsWanted G heap (Acquire g) → q ≡ queue_for G (Acquire g) → at ≡ waits_before (first (next_group G g)).command → item ≡ Release g → IsWaitWanted G heap q at item
  for_member : (g : ℕ) → Enters G g item → IsWanted G heap item → q ≢ queue_for G item → 0 < length (on q (group_at G g)) → at ≡ waits_before (first (on q (group_at G g))).command → IsWaitWanted G heap q at item
