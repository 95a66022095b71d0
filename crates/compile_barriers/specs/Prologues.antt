-- What stands before each group, and the release that stands after the group before it.
use Rattle.std.specs.Prelude.{ℕ, zero, suc, List, [], ◌∷◌, ◌-◌, map, length, slice_index_or, Bool, true, false, Some, None, is_some, if◌then◌else◌}
use Rattle.std.specs.List.{range_with_len}
use Rattle.vk.specs.declared.masks.Masks.{Masks}
use Rattle.compile_groups.specs.Groups.{shares}
use Rattle.compile_groups.specs.Needs.{group_at, goes_on}
use Rattle.compile_groups.specs.Placed.{is_import}
use Rattle.compile_groups.specs.Uses.{no_use}
use Rattle.compile_groups.specs.declared.grouping.Grouping.{Grouping}
use Rattle.compile_groups.specs.declared.unit_use.Use.{Use}
use Rattle.compile_barriers.specs.Masks.{barrier_masks, release_masks, entry_masks, no_masks}
use Rattle.compile_barriers.specs.Under.{Heap, place_of, uses_under}
use Rattle.compile_barriers.specs.declared.prologue.Prologue.{Prologue}
use Rattle.compile_barriers.specs.declared.prologue.PrologueKind.{PrologueKind}
use Rattle.compile_barriers.specs.declared.prologue.PrologueKind.TheVariants.{Nothing, Barrier, Transfer, Alias, Init, AliasInit}

-- MEMBERS

abbrev pub first : List Use → Use
first uses = slice_index_or uses 0 no_use

abbrev pub last : List Use → Use
last uses = slice_index_or uses (length uses - 1) no_use

abbrev pub has_uses : List Use → Bool
has_uses [] = false
has_uses (u ∷ uses) = true

-- the uses of the group of the same unit right before group g, if there is one
abbrev pub earlier : Grouping → ℕ → List Use
earlier G zero = []
earlier G (suc g) = if goes_on G g then group_at G g else []

-- WHICH KIND

-- after the uses A of the same unit: a barrier where the unit is concurrent or both are of one family, else a transfer
abbrev pub next_kind : Grouping → List Use → List Use → PrologueKind
next_kind G A B = if shares G.families G.sharings (first B).unit (first A).queue (first B).queue then Barrier else Transfer

-- first of a placed unit: an alias barrier where bytes had other uses before, and for an image a barrier out of UNDEFINED
abbrev pub first_kind : (reused image : Bool) → PrologueKind
first_kind false false = Nothing
first_kind false true = Init
first_kind true false = Alias
first_kind true true = AliasInit

-- of a group of the uses B, after the uses A of the same unit and, if there are none, L of the same bytes; the first group of
-- an import has nothing
abbrev pub kind_of : Grouping → List Use → List Use → List Use → PrologueKind
kind_of G A L B =
    if has_uses A then next_kind G A B
    else if is_import G (first B).unit then Nothing
    else first_kind (has_uses L) (is_some (first B).layout)

-- WHICH MASKS

-- those of the barrier or the acquire. Of an alias barrier and a barrier out of UNDEFINED together they are those of the alias
-- barrier; the other one has `entry_masks`
abbrev pub masks_of : PrologueKind → List Use → List Use → List Use → ℕ → Masks
masks_of Nothing A L B q = no_masks
masks_of Barrier A L B q = barrier_masks A B q
masks_of Transfer A L B q = entry_masks B q
masks_of Alias A L B q = barrier_masks L B q
masks_of Init A L B q = entry_masks B q
masks_of AliasInit A L B q = barrier_masks L B q

abbrev pub is_transfer : PrologueKind → Bool
is_transfer Transfer = true
is_transfer kind = false

-- it stands on the queue of the group's first member, and the release on that of A's last one
abbrev pub prologue_between : PrologueKind → ℕ → List Use → List Use → List Use → Prologue
prologue_between kind g A L B = record {
  queue = (first B).queue;
  group = g;
  kind = kind;
  masks = masks_of kind A L B (first B).queue;
  release = if is_transfer kind then Some (release_masks A (last A).queue) else None;
  release_queue = if is_transfer kind then Some (last A).queue else None;
}

-- ALL GROUPS

abbrev pub prologue_of : Grouping → Heap → ℕ → Prologue
prologue_of G heap g =
    let A = earlier G g in
    let B = group_at G g in
    let L = uses_under G heap (place_of G (first B).unit) in
    prologue_between (kind_of G A L B) g A L B

abbrev pub prologues : Grouping → Heap → List Prologue
prologues G heap = map (prologue_of G heap) (range_with_len 0 (length G.groups))
