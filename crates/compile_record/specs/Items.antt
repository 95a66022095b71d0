-- What stands round the groups of a unit, as items of its queue.
use Rattle.std.specs.Prelude.{ℕ, List, [], ◌∷◌, Option, Some, None}
use Rattle.vk.specs.declared.layout.Layout.{Layout}
use Rattle.vk.specs.declared.layout.Layout.TheVariants.{Undefined}
use Rattle.vk.specs.declared.layout.Layouts.{Layouts}
use Rattle.vk.specs.declared.masks.Masks.{Masks}
use Rattle.compile_groups.specs.Groups.{family_of}
use Rattle.compile_groups.specs.declared.grouping.Grouping.{Grouping}
use Rattle.compile_groups.specs.declared.unit_use.Use.{Use}
use Rattle.compile_record.specs.Pieces.{piece_of}
use Rattle.compile_record.specs.declared.mark.Mark.TheVariants as marks
use Rattle.compile_record.specs.declared.mark.Marked.{Marked}
use Rattle.compile_record.specs.declared.mark.Marked.TheVariants.{Does}
use Rattle.program.specs.declared.program.Item.{Item}
use Rattle.program.specs.declared.program.Item.TheVariants as item
use Rattle.program.specs.declared.program.Transfer.{Transfer}
use Rattle.compile_barriers.specs.Masks.{entry_masks, release_masks}
use Rattle.compile_barriers.specs.Prologues.{first, last}
use Rattle.compile_barriers.specs.declared.prologue.Prologue.{Prologue}
use Rattle.compile_barriers.specs.declared.prologue.PrologueKind.{PrologueKind}
use Rattle.compile_barriers.specs.declared.prologue.PrologueKind.TheVariants.{Nothing, Barrier, Transfer as Handover, Alias, Init, AliasInit}

-- LAYOUTS

abbrev pub both : Option Layout → Option Layout → Option Layouts
both (Some from) (Some to) = Some (record { from = from; to = to })
both (Some from) None = None
both None to = None

-- from that of the uses A to that of the uses B, where they are of an image
abbrev pub layouts_between : List Use → List Use → Option Layouts
layouts_between A B = both (last A).layout (first B).layout

-- ONE ITEM

abbrev pub barrier : ℕ → Option Layouts → Masks → Item
barrier piece (Some layouts) masks = item.ImageBarrier piece layouts masks
barrier piece None masks = item.BufferBarrier piece masks

-- from the family of the last of the uses A to that of the first of the uses B
abbrev pub transfer : Grouping → List Use → List Use → Masks → Transfer
transfer G A B masks = record {
  piece = piece_of G (first B).unit;
  from_family = family_of G.families (last A).queue;
  to_family = family_of G.families (first B).queue;
  layouts = layouts_between A B;
  masks = masks;
}

-- out of UNDEFINED, to the layout of the uses B
abbrev pub init : Grouping → List Use → Item
init G B = barrier (piece_of G (first B).unit) (both (Some Undefined) (first B).layout) (entry_masks B (first B).queue)

-- ROUND A GROUP

abbrev pub does_prologue : Prologue → Item → Marked
does_prologue prologue item = Does prologue.queue (Some (marks.Prologue prologue.group)) item

-- between the uses A and the uses B of the next group of the unit
abbrev pub items_of : PrologueKind → Grouping → Prologue → List Use → List Use → List Marked
items_of Nothing G prologue A B = []
items_of Barrier G prologue A B = does_prologue prologue (barrier (piece_of G (first B).unit) (layouts_between A B) prologue.masks) ∷ []
items_of Handover G prologue A B = does_prologue prologue (item.Acquire (transfer G A B prologue.masks)) ∷ []
items_of Alias G prologue A B = does_prologue prologue (item.Global prologue.masks) ∷ []
items_of Init G prologue A B = does_prologue prologue (init G B) ∷ []
items_of AliasInit G prologue A B = Does prologue.queue None (item.Global prologue.masks) ∷ does_prologue prologue (init G B) ∷ []

abbrev pub prologue_items : Grouping → Prologue → List Use → List Use → List Marked
prologue_items G prologue A B = items_of prologue.kind G prologue A B

-- after the uses A with group number g, before the uses B of another family
abbrev pub release_item : Grouping → ℕ → List Use → List Use → Marked
release_item G g A B = Does (last A).queue (Some (marks.Release g)) (item.Release (transfer G A B (release_masks A (last A).queue)))
