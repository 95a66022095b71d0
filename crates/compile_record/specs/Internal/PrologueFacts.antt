-- What is looked up while a script is written.
use Rattle.std.specs.Prelude.{◌≡◌, ℕ, List, [], ◌∷◌, ◌++◌, ◌+◌, ◌<◌, ◌-◌, map, length}
use Rattle.vk.specs.declared.masks.Masks.{Masks}
use Rattle.compile_groups.specs.Needs.{group_at}
use Rattle.compile_groups.specs.declared.grouping.Grouping.{Grouping}
use Rattle.compile_record.specs.Items.{release_item}
use Rattle.compile_record.specs.Wanted.{wanted_release}
use Rattle.compile_record.specs.declared.mark.Marked.{Marked}
use Rattle.compile_record.specs.declared.mark.Marked.TheVariants.{Needs}
use Rattle.compile_barriers.specs.Masks.{masks, entry_masks}
use Rattle.compile_barriers.specs.Prologues.{earlier, first}
use Rattle.compile_barriers.specs.Unions.{on}
use Rattle.compile_barriers.specs.declared.prologue.Prologue.{Prologue}
use Rattle.compile_barriers.specs.declared.prologue.PrologueKind.TheVariants.{Barrier, Transfer, Init, AliasInit}

-- ONE GROUP

-- a group in which a command on queue q has a use
pub record IsUsed (G : Grouping) (q g : ℕ) : Type 0 where
  pub group : g < length G.groups
  pub here : 0 < length (on q (group_at G g))

-- ONE TURN

-- the group right before group g is of the same unit
pub record IsNext (G : Grouping) (g : ℕ) : Type 0 where
  pub later : 0 < g
  pub is : earlier G g ≡ group_at G (g - 1)

-- the destination on both sides, and no source access
abbrev pub entered : Masks → Masks
entered m = masks m.dst_stages.0 0 m.dst_stages.0 m.dst_accesses.0

abbrev pub Enters : Grouping → Prologue → Type 0
Enters G prologue = entry_masks (group_at G prologue.group) (first (group_at G prologue.group)).queue ≡ entered prologue.masks

-- what each kind of prologue says of its group
pub record Stands (G : Grouping) (prologue : Prologue) : Type 0 where
  pub group : prologue.group < length G.groups
  pub barrier : prologue.kind ≡ Barrier → IsNext G prologue.group
  pub transfer : prologue.kind ≡ Transfer → IsNext G prologue.group
  pub init : prologue.kind ≡ Init → Enters G prologue
  pub alias_init : prologue.kind ≡ AliasInit → Enters G prologue

-- RELEASES

-- what queue q needs before the release after group g, and the release
abbrev pub released_items : Grouping → ℕ → ℕ → List Marked
released_items G q g = map (Needs q) (wanted_release G (group_at G g)) ++ release_item G g (group_at G g) (group_at G (g + 1)) ∷ []
