-- The nodes of a recorded frame by what they are for.
use Rattle.std.specs.Prelude.{ℕ, ◌-◌, length, slice_get, List, if◌then◌else◌}
use Rattle.std.specs.List.{position_or_len}
use Rattle.std.specs.Option.{option_map_or}
use Rattle.law_sound.specs.Plan.{export_at, exports, is_of_unit, is_read}
use Rattle.law_plan.specs.Nodes.{Nodes}
use Rattle.law_schedule.specs.Standing.{read_number}
use Rattle.compile_groups.specs.Needs.{group_at, queue_of}
use Rattle.compile_groups.specs.declared.grouping.Grouping.{Grouping}
use Rattle.compile_record.specs.Marks.{steps_of}
use Rattle.compile_record.specs.Script.{is_released, script}
use Rattle.compile_record.specs.Standing.{host_step, step}
use Rattle.compile_record.specs.Wanted.{is_there}
use Rattle.compile_record.specs.declared.mark.Mark.TheVariants.{Command, Prologue as OfPrologue, Release}
use Rattle.compile_timeline.specs.Places.{item_number}
use Rattle.compile_timeline.specs.declared.step.Step.{Step}
use Rattle.compile_barriers.specs.Prologues.{first, last, prologue_of}
use Rattle.compile_barriers.specs.Under.{Heap}
use Rattle.compile_barriers.specs.declared.prologue.PrologueKind.{PrologueKind}
use Rattle.compile_barriers.specs.declared.prologue.PrologueKind.TheVariants.{AliasInit}

abbrev pub steps : Grouping → Heap → List Step
steps G heap = steps_of (script G heap)

-- the number of the item of queue q at step i
abbrev pub item_at : Grouping → Heap → ℕ → ℕ → ℕ
item_at G heap q i = item_number (steps G heap) (length G.families) q i

abbrev pub command_node : Grouping → Heap → ℕ → ℕ
command_node G heap c = item_at G heap (queue_of G c) (step G heap (Command c))

-- TURNS OF UNITS

-- the queue of the prologue of group g, and of the release after it
abbrev pub prologue_queue : Grouping → ℕ → ℕ
prologue_queue G g = (first (group_at G g)).queue

abbrev pub release_queue : Grouping → ℕ → ℕ
release_queue G g = (last (group_at G g)).queue

abbrev pub prologue_node : Grouping → Heap → ℕ → ℕ
prologue_node G heap g = item_at G heap (prologue_queue G g) (step G heap (OfPrologue g))

-- how many steps an alias barrier stands before the item with the mark of the prologue
abbrev pub steps_before : PrologueKind → ℕ
steps_before AliasInit = 1
steps_before kind = 0

abbrev pub alias_step : Grouping → Heap → ℕ → ℕ
alias_step G heap g = step G heap (OfPrologue g) - steps_before (prologue_of G heap g).kind

abbrev pub alias_node : Grouping → Heap → ℕ → ℕ
alias_node G heap g = item_at G heap (prologue_queue G g) (alias_step G heap g)

abbrev pub release_node : Grouping → Heap → ℕ → ℕ
release_node G heap g = item_at G heap (release_queue G g) (step G heap (Release g))

-- EXPORTS

-- the command that copies export k
abbrev pub copy_of : Grouping → ℕ → ℕ
copy_of G k = position_or_len (exports k) G.commands

-- the step of the barrier after it
abbrev pub copied_step : Grouping → Heap → ℕ → ℕ
copied_step G heap c = option_map_or (host_step G heap c) (slice_get G.commands c) 0

abbrev pub copied_node : Grouping → Heap → ℕ → ℕ
copied_node G heap k = item_at G heap (queue_of G (copy_of G k)) (copied_step G heap (copy_of G k))

abbrev pub read_node : Grouping → Heap → ℕ → ℕ
read_node G heap k = read_number (steps G heap) (length G.families) k

-- ALL OF THEM

abbrev pub nodes_of : Grouping → Heap → Nodes
nodes_of G heap = record {
  command = command_node G heap;
  prologue = λ g. if is_of_unit G g then prologue_node G heap g else copied_node G heap (export_at G g);
  has_prologue = λ g. if is_of_unit G g then is_there (prologue_of G heap g).kind else is_read G g;
  alias = alias_node G heap;
  release = release_node G heap;
  released = is_released G heap;
  reader = λ g. read_node G heap (export_at G g);
}
