-- The node of each item that is recorded, and what barriers are as nodes.
use Rattle.std.proofs.Common.{◌≡◌, ℕ, ◌||◌, Bool, true, false, List, [], ◌∷◌, length, slice_get, if◌then◌else◌, Option, Some, None, refl, sym, ap, ap₂, ◌∙◌, eq-eqb}
use Rattle.std.specs.List.{All}
use Rattle.std.specs.Option.{option_map, option_map_or}
use Rattle.std.proofs.lemmas.List.Elements.{All-nil, All-append}
use Rattle.std.proofs.lemmas.Option.{slice_get-map}
use Rattle.base.proofs.Lists.{one}
use Rattle.base.specs.declared.shape.Shape.{Shape}
use Rattle.vk.specs.Agents.{agents}
use Rattle.vk.specs.Layouts.{is_undefined}
use Rattle.vk.specs.declared.layout.Layout.TheVariants.{Undefined}
use Rattle.vk.specs.declared.layout.Layouts.{Layouts}
use Rattle.vk.specs.declared.masks.Masks.{Masks}
use Rattle.law_sound.proofs.Barriers.{IsBarrierOf}
use Rattle.law_sound.specs.Nodes.{item_at, steps}
use Rattle.law_plan.specs.Kinds.{is_entry}
use Rattle.law_schedule.specs.Standing.{AllStand, StandsFor}
use Rattle.compile_groups.specs.declared.grouping.Grouping.{Grouping}
use Rattle.compile_groups.specs.declared.unit_use.Use.{Use}
use Rattle.check_order.specs.Nodes.{barrier_node}
use Rattle.compile_record.specs.Items.{barrier, both, layouts_between, transfer}
use Rattle.compile_record.specs.Marks.{unmarked}
use Rattle.compile_record.specs.Pieces.{piece_of}
use Rattle.compile_record.specs.Script.{script}
use Rattle.compile_record.specs.Standing.{StandsAt, item_by}
use Rattle.compile_record.specs.declared.mark.Mark.{Mark}
use Rattle.compile_record.specs.declared.mark.Marked.{Marked}
use Rattle.compile_record.specs.declared.mark.Marked.TheVariants.{Does, Needs}
use Rattle.program.specs.Barriers as barriers
use Rattle.program.specs.Entries.{OfItem}
use Rattle.program.specs.declared.program.Item.{Item}
use Rattle.program.specs.declared.program.Item.TheVariants as item
use Rattle.program.specs.declared.program.Program.{Program}
use Rattle.program.specs.declared.program.Transfer.{Transfer}
use Rattle.compile_timeline.specs.Steps.{IsScript, has_item, is_item}
use Rattle.compile_timeline.specs.declared.step.Step.TheVariants as step
use Rattle.compile_barriers.specs.Masks.{entry_masks}
use Rattle.compile_barriers.specs.Prologues.{first, masks_of}
use Rattle.compile_barriers.specs.Under.{Heap}
use Rattle.compile_barriers.specs.declared.prologue.Prologue.{Prologue}
use Rattle.compile_barriers.specs.declared.prologue.PrologueKind.{PrologueKind}
use Rattle.compile_barriers.specs.declared.prologue.PrologueKind.TheVariants as kinds
use Rattle.check_access.specs.Effects.{access, acquire_accesses, handover_of, item_effect, layout_change, same_layout, transition_through}
use Rattle.check_access.specs.Views.{is_on, view_of}
use Rattle.check_access.specs.declared.access.Access.{Access}
use Rattle.check_access.specs.declared.access.AccessKind.TheVariants as access_kinds

-- NODES OF ITEMS

-- what is recorded at a step
pub record IsMarkedAt (G : Grouping) (heap : Heap) (i q : ℕ) (it : Item) : Type 0 where
  pub of : Option Mark
  pub at : StandsAt G heap i (Does q of it)

module _ (G : Grouping) (heap : Heap) where
  pub item_there : (i q : ℕ) (of : Option Mark) (it : Item) → StandsAt G heap i (Does q of it) → slice_get (steps G heap) i ≡ Some (step.Item q it)
  item_there i q of it e = slice_get-map (unmarked (script G heap)) (script G heap) i ∙ ap (option_map (unmarked (script G heap))) e

  pub item_has : (i q : ℕ) (of : Option Mark) (it : Item) → StandsAt G heap i (Does q of it) → has_item (steps G heap) q i ≡ true
  item_has i q of it e = ap (λ o. option_map_or (is_item q) o false) (item_there i q of it e) ∙ eq-eqb q q refl

  pub item_marked : (i q : ℕ) (it : Item) → slice_get (steps G heap) i ≡ Some (step.Item q it) → IsMarkedAt G heap i q it
  item_marked i q it e = go (slice_get (script G heap) i) refl (sym (slice_get-map (unmarked (script G heap)) (script G heap) i) ∙ e)
    where
      go : (o : Option Marked) → slice_get (script G heap) i ≡ o → option_map (unmarked (script G heap)) o ≡ Some (step.Item q it) → IsMarkedAt G heap i q it
      go None at f = absurd cc
      go (Some (Does r of other)) at f =
          let queue : r ≡ q = cc in
          let same : other ≡ it = cc in
          record { of = of; at = at ∙ ap₂ (λ p x. Some (Does p of x)) queue same }
      go (Some (Needs r mark)) at f = absurd cc

  module _ (P : Program) (T : AllStand P (steps G heap) (length G.families)) (K : IsScript (steps G heap) (length G.families)) where
    pub item_stands : (i q : ℕ) (of : Option Mark) (it : Item) → StandsAt G heap i (Does q of it) → StandsFor P (item_at G heap q i) (OfItem q it)
    item_stands i q of it e = T.item q i it (K.items i q (item_has i q of it e)) (item_there i q of it e)

-- BARRIERS

-- an item that is a barrier on a piece
abbrev pub Serves : ℕ → Item → Type 0
Serves p (item.Command op) = ⊥
Serves p (item.Global masks) = Unit {0}
Serves p (item.BufferBarrier piece masks) = piece ≡ p
Serves p (item.ImageBarrier piece layouts masks) = piece ≡ p
Serves p (item.Release t) = t.piece ≡ p
Serves p (item.Acquire t) = t.piece ≡ p

pub barrier_stands : (P : Program) (n q p : ℕ) (it : Item) (masks : Masks) → barriers.masks_of it ≡ Some masks → Serves p it → StandsFor P n (OfItem q it) → IsBarrierOf (view_of P) n q p masks
barrier_stands P n q p (item.Command op) masks e on S = absurd on
barrier_stands P n q p (item.Global own) masks e on S =
    let same : own ≡ masks = cc in
    record { node = S.node ∙ ap (barrier_node q) same; available = ap (λ x. x.available) S.effect ∙ ap (λ z. agents z.src_stages.0 z.src_accesses.0) same; visible = ap (λ x. x.visible) S.effect ∙ ap (λ z. agents z.dst_stages.0 z.dst_accesses.0) same; on = ap (λ x. is_on p x.scope) S.effect }
barrier_stands P n q p (item.BufferBarrier piece own) masks e on S =
    let same : own ≡ masks = cc in
    record { node = S.node ∙ ap (barrier_node q) same; available = ap (λ x. x.available) S.effect ∙ ap (λ z. agents z.src_stages.0 z.src_accesses.0) same; visible = ap (λ x. x.visible) S.effect ∙ ap (λ z. agents z.dst_stages.0 z.dst_accesses.0) same; on = ap (λ x. is_on p x.scope) S.effect ∙ eq-eqb piece p on }
barrier_stands P n q p (item.ImageBarrier piece layouts own) masks e on S =
    let same : own ≡ masks = cc in
    record { node = S.node ∙ ap (barrier_node q) same; available = ap (λ x. x.available) S.effect ∙ ap (λ z. agents z.src_stages.0 z.src_accesses.0) same; visible = ap (λ x. x.visible) S.effect ∙ ap (λ z. agents z.dst_stages.0 z.dst_accesses.0) same; on = ap (λ x. is_on p x.scope) S.effect ∙ eq-eqb piece p on }
barrier_stands P n q p (item.Release t) masks e on S =
    let same : t.masks ≡ masks = cc in
    record { node = S.node ∙ ap (barrier_node q) same; available = ap (λ x. x.available) S.effect ∙ ap (λ z. agents z.src_stages.0 z.src_accesses.0) same; visible = ap (λ x. x.visible) S.effect ∙ ap (λ z. agents z.dst_stages.0 z.dst_accesses.0) same; on = ap (λ x. is_on p x.scope) S.effect ∙ eq-eqb t.piece p on }
barrier_stands P n q p (item.Acquire t) masks e on S =
    let same : t.masks ≡ masks = cc in
    record { node = S.node ∙ ap (barrier_node q) same; available = ap (λ x. x.available) S.effect ∙ ap (λ z. agents z.src_stages.0 z.src_accesses.0) same; visible = ap (λ x. x.visible) S.effect ∙ ap (λ z. agents z.dst_stages.0 z.dst_accesses.0) same; on = ap (λ x. is_on p x.scope) S.effect ∙ eq-eqb t.piece p on }

-- TURNS

layout_masks : (piece : ℕ) (layouts : Option Layouts) (masks : Masks) → barriers.masks_of (barrier piece layouts masks) ≡ Some masks
layout_masks piece (Some layouts) masks = refl
layout_masks piece None masks = refl

layout_serves : (piece : ℕ) (layouts : Option Layouts) (masks : Masks) → Serves piece (barrier piece layouts masks)
layout_serves piece (Some layouts) masks = refl
layout_serves piece None masks = refl

-- the masks of the item with the mark: of an alias barrier and a barrier out of UNDEFINED those of the latter
abbrev pub item_masks : PrologueKind → List Use → List Use → List Use → ℕ → Masks
item_masks kinds.AliasInit A L B q = entry_masks B q
item_masks kind A L B q = masks_of kind A L B q

pub prologue_masks : (kind : PrologueKind) (G : Grouping) (prologue : Prologue) (A L B : List Use) → prologue.masks ≡ masks_of kind A L B (first B).queue → barriers.masks_of (item_by kind G prologue A B) ≡ Some (item_masks kind A L B (first B).queue)
prologue_masks kinds.Nothing G prologue A L B e = refl
prologue_masks kinds.Barrier G prologue A L B e = layout_masks (piece_of G (first B).unit) (layouts_between A B) prologue.masks ∙ ap (λ m. Some m) e
prologue_masks kinds.Transfer G prologue A L B e = ap (λ m. Some m) e
prologue_masks kinds.Alias G prologue A L B e = ap (λ m. Some m) e
prologue_masks kinds.Init G prologue A L B e = layout_masks (piece_of G (first B).unit) (both (Some Undefined) (first B).layout) (entry_masks B (first B).queue)
prologue_masks kinds.AliasInit G prologue A L B e = layout_masks (piece_of G (first B).unit) (both (Some Undefined) (first B).layout) (entry_masks B (first B).queue)

pub prologue_serves : (kind : PrologueKind) (G : Grouping) (prologue : Prologue) (A B : List Use) → Serves (piece_of G (first B).unit) (item_by kind G prologue A B)
prologue_serves kinds.Nothing G prologue A B = tt
prologue_serves kinds.Barrier G prologue A B = layout_serves (piece_of G (first B).unit) (layouts_between A B) prologue.masks
prologue_serves kinds.Transfer G prologue A B = refl
prologue_serves kinds.Alias G prologue A B = tt
prologue_serves kinds.Init G prologue A B = layout_serves (piece_of G (first B).unit) (both (Some Undefined) (first B).layout) (entry_masks B (first B).queue)
prologue_serves kinds.AliasInit G prologue A B = layout_serves (piece_of G (first B).unit) (both (Some Undefined) (first B).layout) (entry_masks B (first B).queue)

-- ACCESSES OF TURNS

-- of what stands before a group, on the piece
pub record IsEntry (p : ℕ) (a : Access) : Type 0 where
  pub entry : is_entry a.kind ≡ true
  pub piece : a.piece ≡ p

through_entries : (p : ℕ) (layouts : Layouts) → All (IsEntry p) (transition_through p layouts)
through_entries p layouts = go (is_undefined layouts.from || same_layout layouts)
  where
    go : (b : Bool) → All (IsEntry p) (if b then [] else access p (access_kinds.Transition layouts) ∷ [])
    go true = All-nil (IsEntry p)
    go false = one (IsEntry p) (access p (access_kinds.Transition layouts)) (record { entry = refl; piece = refl })

change_entries : (p : ℕ) (layouts : Layouts) → All (IsEntry p) (layout_change p layouts)
change_entries p layouts = go (is_undefined layouts.from)
  where
    go : (b : Bool) → All (IsEntry p) (if b then access p (access_kinds.Discard layouts.to) ∷ [] else transition_through p layouts)
    go true = one (IsEntry p) (access p (access_kinds.Discard layouts.to)) (record { entry = refl; piece = refl })
    go false = through_entries p layouts

barrier_entries : (shapes : List Shape) (q p : ℕ) (layouts : Option Layouts) (masks : Masks) → All (IsEntry p) (item_effect shapes q (barrier p layouts masks)).accesses
barrier_entries shapes q p (Some layouts) masks = change_entries p layouts
barrier_entries shapes q p None masks = All-nil (IsEntry p)

acquire_entries : (t : Transfer) → All (IsEntry t.piece) (acquire_accesses t)
acquire_entries t = All-append (IsEntry t.piece) (option_map_or (transition_through t.piece) t.layouts []) (access t.piece (access_kinds.Acquire (handover_of t)) ∷ [])
    (go t.layouts)
    (one (IsEntry t.piece) (access t.piece (access_kinds.Acquire (handover_of t))) (record { entry = refl; piece = refl }))
  where
    go : (o : Option Layouts) → All (IsEntry t.piece) (option_map_or (transition_through t.piece) o [])
    go (Some layouts) = through_entries t.piece layouts
    go None = All-nil (IsEntry t.piece)

pub prologue_entries : (shapes : List Shape) (q : ℕ) (kind : PrologueKind) (G : Grouping) (prologue : Prologue) (A B : List Use) → All (IsEntry (piece_of G (first B).unit)) (item_effect shapes q (item_by kind G prologue A B)).accesses
prologue_entries shapes q kinds.Nothing G prologue A B = All-nil (IsEntry (piece_of G (first B).unit))
prologue_entries shapes q kinds.Barrier G prologue A B = barrier_entries shapes q (piece_of G (first B).unit) (layouts_between A B) prologue.masks
prologue_entries shapes q kinds.Transfer G prologue A B = acquire_entries (transfer G A B prologue.masks)
prologue_entries shapes q kinds.Alias G prologue A B = All-nil (IsEntry (piece_of G (first B).unit))
prologue_entries shapes q kinds.Init G prologue A B = barrier_entries shapes q (piece_of G (first B).unit) (both (Some Undefined) (first B).layout) (entry_masks B (first B).queue)
prologue_entries shapes q kinds.AliasInit G prologue A B = barrier_entries shapes q (piece_of G (first B).unit) (both (Some Undefined) (first B).layout) (entry_masks B (first B).queue)
