-- What stands before a group is no command.
use Rattle.std.proofs.Common.{◌≡◌, ℕ, List, Option, Some, None, refl}
use Rattle.vk.specs.declared.layout.Layout.TheVariants.{Undefined}
use Rattle.vk.specs.declared.layout.Layouts.{Layouts}
use Rattle.vk.specs.declared.masks.Masks.{Masks}
use Rattle.check_program.specs.Apart.{op_of}
use Rattle.compile_groups.specs.Needs.{group_at}
use Rattle.compile_groups.specs.declared.grouping.Grouping.{Grouping}
use Rattle.compile_groups.specs.declared.unit_use.Use.{Use}
use Rattle.compile_record.specs.Items.{both, barrier, init, layouts_between}
use Rattle.compile_record.specs.Pieces.{piece_of}
use Rattle.compile_record.specs.Standing.{item_by, prologue_item}
use Rattle.compile_barriers.specs.Masks.{entry_masks}
use Rattle.compile_barriers.specs.Prologues.{earlier, first, prologue_of}
use Rattle.compile_barriers.specs.Under.{Heap}
use Rattle.compile_barriers.specs.declared.prologue.Prologue.{Prologue}
use Rattle.compile_barriers.specs.declared.prologue.PrologueKind.{PrologueKind}
use Rattle.compile_barriers.specs.declared.prologue.PrologueKind.TheVariants.{Nothing, Barrier, Transfer, Alias, Init, AliasInit}

barrier_quiet : (piece : ℕ) (layouts : Option Layouts) (masks : Masks) → op_of (barrier piece layouts masks) ≡ None
barrier_quiet piece (Some layouts) masks = refl
barrier_quiet piece None masks = refl

init_quiet : (G : Grouping) (B : List Use) → op_of (init G B) ≡ None
init_quiet G B = barrier_quiet (piece_of G (first B).unit) (both (Some Undefined) (first B).layout) (entry_masks B (first B).queue)

item_quiet : (kind : PrologueKind) (G : Grouping) (prologue : Prologue) (A B : List Use) → op_of (item_by kind G prologue A B) ≡ None
item_quiet Nothing G prologue A B = refl
item_quiet Barrier G prologue A B = barrier_quiet (piece_of G (first B).unit) (layouts_between A B) prologue.masks
item_quiet Transfer G prologue A B = refl
item_quiet Alias G prologue A B = refl
item_quiet Init G prologue A B = init_quiet G B
item_quiet AliasInit G prologue A B = init_quiet G B

pub prologue_quiet : (G : Grouping) (heap : Heap) (g : ℕ) → op_of (prologue_item G heap g) ≡ None
prologue_quiet G heap g = item_quiet (prologue_of G heap g).kind G (prologue_of G heap g) (earlier G g) (group_at G g)
