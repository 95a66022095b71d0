-- Where in the list what is recorded stands, by the steps of marks.
use Rattle.std.specs.Prelude.{◌≡◌, ◌≢◌, ◌⊎◌, ℕ, suc, ◌+◌, ◌-◌, ◌<◌, List, length, slice_get, true, Option, Some, None}
use Rattle.std.specs.List.{flat_map}
use Rattle.base.specs.Operands.{destination_of}
use Rattle.compile_groups.specs.Needs.{group_at}
use Rattle.compile_groups.specs.declared.command.Command as commands
use Rattle.compile_groups.specs.declared.grouping.Grouping.{Grouping}
use Rattle.compile_groups.specs.declared.unit_use.Use.{Use}
use Rattle.compile_record.specs.Items.{barrier, init, layouts_between, transfer, release_item}
use Rattle.compile_record.specs.Marks.{step_of}
use Rattle.compile_record.specs.Pieces.{piece_of}
use Rattle.compile_record.specs.Script.{does_command, groups_used, is_released, script, use_releases}
use Rattle.compile_record.specs.Wanted.{is_there}
use Rattle.compile_record.specs.declared.mark.Mark.{Mark}
use Rattle.compile_record.specs.declared.mark.Mark.TheVariants.{Command, Prologue as OfPrologue, Release}
use Rattle.compile_record.specs.declared.mark.Marked.{Marked}
use Rattle.compile_record.specs.declared.mark.Marked.TheVariants.{Does, Needs}
use Rattle.program.specs.declared.program.Item.{Item}
use Rattle.program.specs.declared.program.Item.TheVariants as item
use Rattle.compile_barriers.specs.Masks.{host_masks, no_masks}
use Rattle.compile_barriers.specs.Prologues.{earlier, first, last, prologue_of}
use Rattle.compile_barriers.specs.Under.{Heap}
use Rattle.compile_barriers.specs.Unions.{on}
use Rattle.compile_barriers.specs.declared.prologue.Prologue.{Prologue}
use Rattle.compile_barriers.specs.declared.prologue.PrologueKind.{PrologueKind}
use Rattle.compile_barriers.specs.declared.prologue.PrologueKind.TheVariants as kinds

-- MARKS

-- there is an item with the mark
abbrev pub IsRecorded : Grouping → Heap → Mark → Type 0
IsRecorded G heap (Command c) = c < length G.commands
IsRecorded G heap (OfPrologue g) = (g < length G.groups) × (is_there (prologue_of G heap g).kind ≡ true)
IsRecorded G heap (Release g) = (g < length G.groups) × (is_released G heap g ≡ true)

-- the command that it stands beside: a prologue before the first member of its group, a release after the last one
abbrev pub beside : Grouping → Mark → ℕ
beside G (Command c) = c
beside G (OfPrologue g) = (first (group_at G g)).command
beside G (Release g) = (last (group_at G g)).command

-- beside one command
abbrev pub side : Mark → ℕ
side (OfPrologue g) = 0
side (Command c) = 1
side (Release g) = 2

-- by commands, and beside one command prologues before it and releases after it
abbrev pub Precedes : Grouping → Mark → Mark → Type 0
Precedes G x y = (beside G x < beside G y) ⊎ ((beside G x ≡ beside G y) × (side x < side y))

-- ITEMS

-- the one that has the mark of a prologue: of an alias barrier and a barrier out of UNDEFINED the latter
abbrev pub item_by : PrologueKind → Grouping → Prologue → List Use → List Use → Item
item_by kinds.Nothing G prologue A B = item.Global no_masks
item_by kinds.Barrier G prologue A B = barrier (piece_of G (first B).unit) (layouts_between A B) prologue.masks
item_by kinds.Transfer G prologue A B = item.Acquire (transfer G A B prologue.masks)
item_by kinds.Alias G prologue A B = item.Global prologue.masks
item_by kinds.Init G prologue A B = init G B
item_by kinds.AliasInit G prologue A B = init G B

abbrev pub prologue_item : Grouping → Heap → ℕ → Item
prologue_item G heap g = item_by (prologue_of G heap g).kind G (prologue_of G heap g) (earlier G g) (group_at G g)

abbrev pub host_item : Grouping → commands.Command → Item
host_item G command = item.BufferBarrier (piece_of G (destination_of command.op)) host_masks

-- STEPS

abbrev pub step : Grouping → Heap → Mark → ℕ
step G heap mark = step_of (script G heap) mark

abbrev pub StandsAt : Grouping → Heap → ℕ → Marked → Type 0
StandsAt G heap i x = slice_get (script G heap) i ≡ Some x

-- of the barrier after the copy of an export: after its command and what that releases
abbrev pub host_step : Grouping → Heap → ℕ → commands.Command → ℕ
host_step G heap c command = step G heap (Command c) + (length (flat_map (use_releases G heap command.queue c) (groups_used G c)) + 1)

-- what stands at step i on queue q: an item with a mark, an alias barrier before a barrier out of UNDEFINED, or the barrier after a copy
pub data IsKnown (G : Grouping) (heap : Heap) (i q : ℕ) (of : Option Mark) (it : Item) : Type 0 where
  by_mark : (mark : Mark) → of ≡ Some mark → IsRecorded G heap mark → i ≡ step G heap mark → IsKnown G heap i q of it
  by_alias : (g : ℕ) → of ≡ None → g < length G.groups → (prologue_of G heap g).kind ≡ kinds.AliasInit → suc i ≡ step G heap (OfPrologue g) → q ≡ (prologue_of G heap g).queue → it ≡ item.Global (prologue_of G heap g).masks → IsKnown G heap i q of it
  by_copy : (c k : ℕ) (command : commands.Command) → of ≡ None → slice_get G.commands c ≡ Some command → command.export ≡ Some k → i ≡ host_step G heap c command → q ≡ command.queue → it ≡ host_item G command → IsKnown G heap i q of it

-- queue q needs the mark before step i
pub record IsNeeded (G : Grouping) (heap : Heap) (q : ℕ) (mark : Mark) (i : ℕ) : Type 0 where
  pub place : ℕ
  pub below : place < i
  pub there : StandsAt G heap place (Needs q mark)

-- the last of the uses A on each queue but q is needed by q before step i
abbrev pub NeedsOthers : Grouping → Heap → List Use → ℕ → ℕ → Type 0
NeedsOthers G heap A q i = (p : ℕ) → p < length G.families → p ≢ q → 0 < length (on p A) → IsNeeded G heap q (Command (last (on p A)).command) i

-- ALL OF THEM

pub record IsStanding (G : Grouping) (heap : Heap) : Type 0 where
  -- each command, each prologue and each release stands once
  pub each_command : (c : ℕ) (command : commands.Command) → slice_get G.commands c ≡ Some command → StandsAt G heap (step G heap (Command c)) (does_command G c command)
  pub each_prologue : (g : ℕ) → IsRecorded G heap (OfPrologue g) → StandsAt G heap (step G heap (OfPrologue g)) (Does (first (group_at G g)).queue (Some (OfPrologue g)) (prologue_item G heap g))
  pub each_release : (g : ℕ) → IsRecorded G heap (Release g) → StandsAt G heap (step G heap (Release g)) (release_item G g (group_at G g) (group_at G (suc g)))
  -- an alias barrier stands right before the barrier out of UNDEFINED
  pub each_alias : (g : ℕ) → g < length G.groups → (prologue_of G heap g).kind ≡ kinds.AliasInit → (i : ℕ) × (suc i ≡ step G heap (OfPrologue g)) × StandsAt G heap i (Does (prologue_of G heap g).queue None (item.Global (prologue_of G heap g).masks))
  pub each_copy : (c k : ℕ) (command : commands.Command) → slice_get G.commands c ≡ Some command → command.export ≡ Some k → StandsAt G heap (host_step G heap c command) (Does command.queue None (host_item G command))
  -- and nothing else does
  pub only : (i q : ℕ) (of : Option Mark) (it : Item) → StandsAt G heap i (Does q of it) → IsKnown G heap i q of it
  pub in_order : (x y : Mark) → IsRecorded G heap x → IsRecorded G heap y → Precedes G x y → step G heap x < step G heap y
  -- what a barrier, an acquire, a further queue of a group and a release need stands before them
  pub barriers : (g : ℕ) → g < length G.groups → (prologue_of G heap g).kind ≡ kinds.Barrier → NeedsOthers G heap (earlier G g) (first (group_at G g)).queue (step G heap (OfPrologue g))
  pub acquires : (g : ℕ) → g < length G.groups → (prologue_of G heap g).kind ≡ kinds.Transfer → IsNeeded G heap (first (group_at G g)).queue (Release (g - 1)) (step G heap (OfPrologue g))
  pub members : (g q : ℕ) → IsRecorded G heap (OfPrologue g) → q ≢ (first (group_at G g)).queue → 0 < length (on q (group_at G g)) → IsNeeded G heap q (OfPrologue g) (step G heap (Command (first (on q (group_at G g))).command))
  pub after : (g : ℕ) → IsRecorded G heap (Release g) → NeedsOthers G heap (group_at G g) (last (group_at G g)).queue (step G heap (Release g))
