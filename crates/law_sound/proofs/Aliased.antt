-- Units that lie in the same bytes.
use Rattle.std.proofs.Common.{◌≡◌, ◌≢◌, ◌⊎◌, ⊎_elim, inl, inr, ℕ, zero, suc, ◌+◌, ◌-◌, ◌<◌, ◌≤◌, ◌==◌, not, Bool, true, false, length, get_or, Option, None, Some, refl, sym, ap, ◌∙◌, subst, bit_and, eqb-true, arith}
use Rattle.std.specs.Int.Bits.{and_zero_r}
use Rattle.std.proofs.lemmas.Bool.{and_from, and_left, false≢true}
use Rattle.std.proofs.lemmas.List.{length-map}
use Rattle.base.specs.Shapes.{bytes_of, shape_at}
use Rattle.vk.specs.Sets.{meets}
use Rattle.vk.specs.Stages.{expand}
use Rattle.vk.specs.declared.layout.Layout.TheVariants.{Undefined}
use Rattle.vk.specs.declared.layout.Layouts.{Layouts}
use Rattle.vk.specs.declared.masks.Masks.{Masks}
use Rattle.law_sound.proofs.Grouped.{over_from, over_parts, resource_unit}
use Rattle.law_sound.proofs.Groups.{next_unit, next_within, some_use}
use Rattle.law_sound.proofs.PrologueKinds.{over_kinds, over_there, under_some}
use Rattle.law_sound.proofs.Later.{held_back}
use Rattle.law_sound.proofs.Lying.{AreMeeting, are_meeting, meet_turned, meeting_ordered}
use Rattle.law_sound.proofs.Opened.{is_barrier, item_stands}
use Rattle.law_sound.proofs.Places.{prologue_unit}
use Rattle.law_sound.proofs.Stages.{after_opens, earlier_stages, group_stages, has_own, prologue_opens, under_stages}
use Rattle.law_sound.proofs.Steps.{ItemAt, does_at, soon, prologue_at}
use Rattle.law_sound.specs.Nodes.{alias_node, alias_step, item_at, nodes_of, steps, steps_before, prologue_node, prologue_queue}
use Rattle.law_sound.specs.Plan.{group_count, is_first, is_over, plan_of, resource_of, unit_of, unit_under}
use Rattle.law_plan.specs.Aliases.{Beside}
use Rattle.law_plan.specs.Crossings.{Sooner, wait_stages}
use Rattle.law_plan.specs.Nodes.{IsBarrier}
use Rattle.law_schedule.specs.Later.{AreSooner, AreCrossed}
use Rattle.law_schedule.specs.Opens.{AreOpen}
use Rattle.law_schedule.specs.Standing.{AllStand}
use Rattle.compile_groups.specs.Laws.{IsGrouped, IsKnown}
use Rattle.compile_groups.specs.Needs.{group_at, goes_on}
use Rattle.compile_groups.specs.Placed.{placed, sizes}
use Rattle.compile_groups.specs.declared.grouping.Grouping.{Grouping}
use Rattle.check_order.specs.Edges.{node_at}
use Rattle.check_order.specs.Nodes.{item_node, program_nodes}
use Rattle.compile_heap.specs.Placing.{IsLeast, Places, number_at, overlap}
use Rattle.base_reach.specs.Paths.{one}
use Rattle.compile_record.specs.Items.{barrier, both as layouts_both, init}
use Rattle.compile_record.specs.Pieces.{piece_of, pieces}
use Rattle.compile_record.specs.Recorded.{heap_with}
use Rattle.compile_record.specs.Script.{is_released}
use Rattle.compile_record.specs.Standing.{IsStanding, item_by, step, prologue_item}
use Rattle.compile_record.specs.declared.mark.Mark.TheVariants.{Prologue as OfPrologue}
use Rattle.program.specs.declared.program.Item.{Item}
use Rattle.program.specs.declared.program.Item.TheVariants as item
use Rattle.program.specs.declared.program.Program.{Program}
use Rattle.law_nodes.specs.Passing.{UpTo}
use Rattle.compile_timeline.specs.Steps.{IsScript}
use Rattle.compile_barriers.specs.Masks.{barrier_masks, entry_masks}
use Rattle.compile_barriers.specs.Prologues.{earlier, first, is_transfer, masks_of, prologue_between, prologue_of}
use Rattle.compile_barriers.specs.Under.{Heap, is_under, place_of, uses_under}
use Rattle.compile_barriers.specs.Unions.{stages_on}
use Rattle.compile_barriers.specs.declared.prologue.PrologueKind.TheVariants as kinds
use Rattle.check_access.specs.Views.{no_piece, pieces_overlap, view_of}

-- THE FIRST AND THE LAST GROUP OF A UNIT

pub record Ends (G : Grouping) (g l : ℕ) : Type 0 where
  pub within : l < length G.groups
  pub unit : unit_of G l ≡ unit_of G g

module _ (G : Grouping) (L : IsGrouped G) where
  last_from : (fuel g : ℕ) → g < length G.groups → length G.groups ≤ g + fuel → (l : ℕ) × Ends G g l × (goes_on G l ≡ false)
  last_from zero g lt le = absurd (omega (arith, lt, le))
  last_from (suc fuel) g lt le = go (goes_on G g) refl (λ within. last_from fuel (suc g) within (omega (arith, le)))
    where
      go : (b : Bool) → goes_on G g ≡ b → (suc g < length G.groups → (l : ℕ) × Ends G (suc g) l × (goes_on G l ≡ false)) → (l : ℕ) × Ends G g l × (goes_on G l ≡ false)
      go false e rest = (g, record { within = lt; unit = refl }, e)
      go true e rest = let r = rest (next_within G L g e) in (r.0, record { within = r.1.within; unit = r.1.unit ∙ sym (next_unit G L g e) }, r.2)

  pub last_of : (g : ℕ) → g < length G.groups → (l : ℕ) × Ends G g l × (goes_on G l ≡ false)
  last_of g lt = last_from (length G.groups) g lt (omega arith)

  pub first_of : (g : ℕ) → g < length G.groups → (f : ℕ) × Ends G g f × (is_first G f ≡ true)
  first_of zero lt = (0, record { within = lt; unit = refl }, refl)
  first_of (suc m) lt = go (goes_on G m) refl (first_of m (omega (arith, lt)))
    where
      go : (b : Bool) → goes_on G m ≡ b → (f : ℕ) × Ends G m f × (is_first G f ≡ true) → (f : ℕ) × Ends G (suc m) f × (is_first G f ≡ true)
      go false e rest = (suc m, record { within = lt; unit = refl }, ap not e)
      go true e rest = (rest.0, record { within = rest.1.within; unit = rest.1.unit ∙ next_unit G L m e }, rest.2)

-- THEY ARE ORDERED

module _ (G : Grouping) (L : IsGrouped G) (K : IsKnown G) (heap : Heap) where
  same_piece : (g l : ℕ) → g < length G.groups → Ends G g l → (plan_of G heap).piece l ≡ (plan_of G heap).piece g
  same_piece g l lt E = ap (piece_of G) (resource_unit G L K l E.within ∙ E.unit ∙ sym (resource_unit G L K g lt))

  beside : (g h : ℕ) → g < length G.groups → h < length G.groups → place_of G (unit_of G g) < length (placed G) → place_of G (unit_of G h) < length (placed G) → unit_under G heap g h ≡ true → Beside (plan_of G heap) g h
  beside g h lg lh pg ph u =
      let a = last_of G L g lg in
      let b = first_of G L h lh in
      record {
        last = a.0;
        first = b.0;
        same_last = same_piece g a.0 lg a.1;
        same_first = same_piece h b.0 lh b.1;
        over = over_from G heap a.0 b.0 (record {
          lower = a.1.within;
          lower_placed = subst (λ x. place_of G x < length (placed G)) (sym a.1.unit) pg;
          lower_last = a.2;
          upper = b.1.within;
          upper_placed = subst (λ x. place_of G x < length (placed G)) (sym b.1.unit) ph;
          upper_first = b.2;
          under = ap (λ x. is_under G heap (place_of G (unit_of G b.0)) (place_of G x)) a.1.unit ∙ ap (λ y. is_under G heap (place_of G y) (place_of G (unit_of G g))) b.1.unit ∙ u;
        });
      }

module _ (G : Grouping) (L : IsGrouped G) (K : IsKnown G) (ordered : ℕ → ℕ → Bool) (places : Places) (least : IsLeast (sizes G) ordered places) where
  pub are_ordered : (g h : ℕ) → g < group_count G → h < group_count G → piece_of G (resource_of G g) ≢ piece_of G (resource_of G h) → pieces_overlap (get_or (pieces G places.offsets) (piece_of G (resource_of G g)) no_piece) (get_or (pieces G places.offsets) (piece_of G (resource_of G h)) no_piece) ≡ true → Beside (plan_of G (heap_with ordered places)) g h ⊎ Beside (plan_of G (heap_with ordered places)) h g
  are_ordered g h lg lh differ o = ⊎_elim
      (λ before. inl (beside G L K (heap_with ordered places) g h M.one.lower M.two.lower M.one.placed_at M.two.placed_at (and_from (ordered i j) (overlap (number_at places.offsets i) (number_at (sizes G) i) (number_at places.offsets j) (number_at (sizes G) j)) before M.meet)))
      (λ after. inr (beside G L K (heap_with ordered places) h g M.two.lower M.one.lower M.two.placed_at M.one.placed_at (and_from (ordered j i) (overlap (number_at places.offsets j) (number_at (sizes G) j) (number_at places.offsets i) (number_at (sizes G) i)) after (meet_turned (sizes G) ordered places least i j M.meet))))
      (meeting_ordered (sizes G) ordered places least i j (within i M.one.placed_at) (within j M.two.placed_at) M.apart M.meet)
    where
      M : AreMeeting G L K places g h
      M = are_meeting G L K places g h lg lh differ o

      i : ℕ
      i = place_of G (unit_of G g)

      j : ℕ
      j = place_of G (unit_of G h)

      within : (k : ℕ) → k < length (placed G) → k < length (sizes G)
      within k lt = let count = length-map (placed G) (λ unit. bytes_of (shape_at G.shapes unit)) in omega (arith, lt, count)

-- THE BARRIER BETWEEN THEM

-- the stages that a barrier waits for
source_is : (piece : ℕ) (layouts : Option Layouts) (masks : Masks) (q : ℕ) → (item_node q (barrier piece layouts masks)).src_stages.0 ≡ expand masks.src_stages.0
source_is piece (Some layouts) masks q = refl
source_is piece None masks q = refl

pub are_kept : (G : Grouping) (heap : Heap) (g h : ℕ) → is_over G heap g h ≡ true → is_released G heap g ≡ false
are_kept G heap g h o = and_left (goes_on G g) (is_transfer (prologue_of G heap (suc g)).kind) (over_parts G heap g h o).lower_last

-- what some stages meet meets itself
meets_own : (a s : ℕ) → meets a s ≡ true → meets s s ≡ true
meets_own a s m = go (s == 0) refl
  where
    own : bit_and s s ≡ s
    own = eqb-true (bit_and s s) s (has_own s)

    go : (b : Bool) → (s == 0) ≡ b → meets s s ≡ true
    go false e = ap (λ z. not (z == 0)) own ∙ ap not e
    go true e = absurd (false≢true (sym (ap (λ z. not (bit_and a z == 0)) (eqb-true s 0 e) ∙ ap (λ z. not (z == 0)) (and_zero_r a)) ∙ m))

module _ (G : Grouping) (L : IsGrouped G) (heap : Heap) (S : IsStanding G heap) where
  abbrev pub alias_item : ℕ → Item
  alias_item h = item.Global (barrier_masks (uses_under G heap (place_of G (unit_of G h))) (group_at G h) (prologue_queue G h))

  alias_is : (h : ℕ) → (prologue_of G heap h).kind ≡ kinds.Alias → prologue_item G heap h ≡ alias_item h
  alias_is h e = ap (λ k. item_by k G (prologue_between k h (earlier G h) (uses_under G heap (place_of G (unit_of G h))) (group_at G h)) (earlier G h) (group_at G h)) e

  masks_are : (h : ℕ) → (prologue_of G heap h).kind ≡ kinds.AliasInit → (prologue_of G heap h).masks ≡ barrier_masks (uses_under G heap (place_of G (unit_of G h))) (group_at G h) (prologue_queue G h)
  masks_are h e = ap (λ k. masks_of k (earlier G h) (uses_under G heap (place_of G (unit_of G h))) (group_at G h) (prologue_queue G h)) e

  own_step : (h : ℕ) → (prologue_of G heap h).kind ≡ kinds.Alias → alias_step G heap h ≡ step G heap (OfPrologue h)
  own_step h e = let is : alias_step G heap h ≡ step G heap (OfPrologue h) - 0 = ap (λ k. step G heap (OfPrologue h) - steps_before k) e in omega (arith, is)

  step_before : (h : ℕ) → (prologue_of G heap h).kind ≡ kinds.AliasInit → alias_step G heap h ≡ step G heap (OfPrologue h) - 1
  step_before h e = ap (λ k. step G heap (OfPrologue h) - steps_before k) e

  pub alias_at : (g h : ℕ) → is_over G heap g h ≡ true → ItemAt G heap (prologue_queue G h) (alias_step G heap h) (alias_item h)
  alias_at g h o = ⊎_elim alone both (over_kinds G L heap g h o)
    where
      upper : h < length G.groups
      upper = (over_parts G heap g h o).upper

      alone : (prologue_of G heap h).kind ≡ kinds.Alias → ItemAt G heap (prologue_queue G h) (alias_step G heap h) (alias_item h)
      alone e = subst (λ i. ItemAt G heap (prologue_queue G h) i (alias_item h)) (sym (own_step h e)) (subst (λ it. ItemAt G heap (prologue_queue G h) (step G heap (OfPrologue h)) it) (alias_is h e) (prologue_at G heap S h (upper, over_there G L heap g h o)))

      both : (prologue_of G heap h).kind ≡ kinds.AliasInit → ItemAt G heap (prologue_queue G h) (alias_step G heap h) (alias_item h)
      both e =
          let a = S.each_alias h upper e in
          let next = a.1 in
          let is = step_before h e in
          let same : alias_step G heap h ≡ a.0 = omega (arith, next, is) in
          subst (λ i. ItemAt G heap (prologue_queue G h) i (alias_item h)) (sym same)
          (subst (λ m. ItemAt G heap (prologue_queue G h) a.0 (item.Global m)) (masks_are h e)
          (does_at G heap a.0 (prologue_queue G h) None (item.Global (prologue_of G heap h).masks) a.2))

  module _ (P : Program) (T : AllStand P (steps G heap) (length G.families)) (opens : AreOpen P) (K : IsScript (steps G heap) (length G.families)) where
    pub alias_barrier : (g h : ℕ) → is_over G heap g h ≡ true → IsBarrier (view_of P) (alias_node G heap h)
    alias_barrier g h o =
        let upper = (over_parts G heap g h o).upper in
        is_barrier G L heap S P T opens K (prologue_queue G h) (alias_step G heap h) (alias_item h) (alias_at g h o)
        (after_opens G h (earlier G h) (uses_under G heap (place_of G (unit_of G h))) (group_at G h) (earlier_stages G L h) (under_stages G L heap (place_of G (unit_of G h))) (group_stages G L h) (some_use G L h upper)
        (uses_under G heap (place_of G (unit_of G h))) (under_stages G L heap (place_of G (unit_of G h))) (under_some G L heap g h o))

    module _ (sooner : AreSooner P (steps G heap) (length G.families)) (crossed : AreCrossed P (steps G heap) (length G.families)) where
      pub alias_onto : (g h : ℕ) → is_over G heap g h ≡ true → UpTo (view_of P) (alias_node G heap h) ((nodes_of G heap).prologue h)
      alias_onto g h o = subst (λ n. UpTo (view_of P) (alias_node G heap h) n) (sym (prologue_unit G heap h upper)) (⊎_elim alone both (over_kinds G L heap g h o))
        where
          upper : h < length G.groups
          upper = (over_parts G heap g h o).upper

          alone : (prologue_of G heap h).kind ≡ kinds.Alias → UpTo (view_of P) (alias_node G heap h) (prologue_node G heap h)
          alone e = inl (ap (item_at G heap (prologue_queue G h)) (own_step h e))

          has_prologue : ItemAt G heap (prologue_queue G h) (step G heap (OfPrologue h)) (prologue_item G heap h)
          has_prologue = prologue_at G heap S h (upper, over_there G L heap g h o)

          A : IsBarrier (view_of P) (alias_node G heap h)
          A = alias_barrier g h o

          B : IsBarrier (view_of P) (prologue_node G heap h)
          B = is_barrier G L heap S P T opens K (prologue_queue G h) (step G heap (OfPrologue h)) (prologue_item G heap h) has_prologue (prologue_opens G L heap h upper (over_there G L heap g h o))

          both : (prologue_of G heap h).kind ≡ kinds.AliasInit → UpTo (view_of P) (alias_node G heap h) (prologue_node G heap h)
          both e = inr (one (held_back (program_nodes P) (alias_node G heap h) (prologue_node G heap h) before A.sync held))
            where
              before : Sooner (program_nodes P) (alias_node G heap h) (prologue_node G heap h)
              before =
                  let a = S.each_alias h upper e in
                  let next = a.1 in
                  let is = step_before h e in
                  soon G heap P sooner crossed (prologue_queue G h) (alias_step G heap h) (step G heap (OfPrologue h)) (alias_item h) (prologue_item G heap h) (alias_at g h o) has_prologue (omega (arith, next, is))

              -- both have the stages of the group
              held : meets (node_at (program_nodes P) (alias_node G heap h)).dst_stages.0 (node_at (program_nodes P) (prologue_node G heap h)).src_stages.0 ≡ true
              held =
                  let entry : prologue_item G heap h ≡ init G (group_at G h) = ap (λ k. item_by k G (prologue_between k h (earlier G h) (uses_under G heap (place_of G (unit_of G h))) (group_at G h)) (earlier G h) (group_at G h)) e in
                  let here : (node_at (program_nodes P) (prologue_node G heap h)).src_stages.0 ≡ expand (stages_on (group_at G h) (prologue_queue G h)) =
                  ap (λ z. z.src_stages.0) (item_stands G L heap S P T opens K (prologue_queue G h) (step G heap (OfPrologue h)) (prologue_item G heap h) has_prologue).node ∙ ap (λ it. (item_node (prologue_queue G h) it).src_stages.0) entry ∙ source_is (piece_of G (first (group_at G h)).unit) (layouts_both (Some Undefined) (first (group_at G h)).layout) (entry_masks (group_at G h) (prologue_queue G h)) (prologue_queue G h) in
                  let there : (node_at (program_nodes P) (alias_node G heap h)).dst_stages.0 ≡ expand (stages_on (group_at G h) (prologue_queue G h)) =
                  ap (λ z. z.dst_stages.0) (item_stands G L heap S P T opens K (prologue_queue G h) (alias_step G heap h) (alias_item h) (alias_at g h o)).node in
                  ap (λ z. meets z (node_at (program_nodes P) (prologue_node G heap h)).src_stages.0) (there ∙ sym here)
                  ∙ meets_own wait_stages (node_at (program_nodes P) (prologue_node G heap h)).src_stages.0 B.opened.into
