-- What stands round groups obeys every rule.
use Rattle.std.proofs.Common.{◌≡◌, ℕ, ◌-◌, ◌<◌, ◌==◌, Bool, true, false, List, [], ◌∷◌, length, if◌then◌else◌, Some, None, refl, sym, ap, ◌∙◌, subst, arith}
use Rattle.std.specs.List.{All}
use Rattle.std.specs.Prelude.{is_some}
use Rattle.std.proofs.lemmas.Bool.{or_parts}
use Rattle.std.proofs.lemmas.List.Elements.{All-nil, All-append}
use Rattle.base.proofs.Booleans.{clash}
use Rattle.base.proofs.Lists.{one}
use Rattle.base.specs.Shapes.{shape_at}
use Rattle.base.specs.declared.shape.Family.{Family}
use Rattle.base.specs.declared.shape.Shape.{Shape}
use Rattle.vk.specs.Families.{family_number}
use Rattle.vk.specs.Sharings.{is_shared}
use Rattle.vk.specs.declared.layout.Layout.TheVariants.{Undefined}
use Rattle.compile_groups.specs.Groups.{family_of, same_family, sharing_of, shares}
use Rattle.compile_groups.specs.Placed.{is_import}
use Rattle.compile_groups.specs.Uses.{no_use}
use Rattle.compile_groups.specs.declared.grouping.Grouping.{Grouping}
use Rattle.compile_groups.specs.declared.unit_use.Use.{Use}
use Rattle.compile_record.specs.Items.{layouts_between, barrier, transfer, init, does_prologue, items_of, prologue_items}
use Rattle.compile_record.specs.Pieces.{piece_of}
use Rattle.compile_record.specs.declared.mark.Marked.{Marked}
use Rattle.compile_record.specs.declared.mark.Marked.TheVariants.{Does, Needs}
use Rattle.program.specs.declared.program.Item.TheVariants as item
use Rattle.compile_barriers.specs.Masks.{barrier_masks, release_masks, entry_masks}
use Rattle.compile_barriers.specs.Prologues.{first, last, has_uses, first_kind, kind_of, prologue_between}
use Rattle.compile_barriers.specs.declared.prologue.PrologueKind.{PrologueKind}
use Rattle.compile_barriers.specs.declared.prologue.PrologueKind.TheVariants.{Nothing, Barrier, Transfer as Handover, Alias, Init, AliasInit}
use Rattle.law_valid.proofs.Items.{ObeysAll, HasShape, global_obeys, barrier_obeys, stand, defined, release_obeys, acquire_obeys}
use Rattle.law_valid.proofs.Masks.{AreGood, barrier_good, entry_good, release_good}
use Rattle.law_valid.proofs.Uses.{IsLaidOut, FitsIn}

-- what is recorded obeys every rule on its queue
abbrev pub MarkedObeys : Grouping → List Shape → Marked → Type 0
MarkedObeys G shapes (Does q mark it) = ObeysAll shapes (family_of G.families q) it
MarkedObeys G shapes (Needs q mark) = Unit {0}

pub some_from : (A : List Use) → has_uses A ≡ true → 0 < length A
some_from [] e = absurd (clash e)
some_from (u ∷ A) e = omega arith

-- two runs of uses of one unit, of which the second is not empty
pub record AreAfter (G : Grouping) (shapes : List Shape) (A B : List Use) : Type 0 where
  pub fit_first : All (FitsIn G) A
  pub fit_second : All (FitsIn G) B
  pub some_second : 0 < length B
  pub piece : HasShape shapes (piece_of G (first B).unit) (shape_at G.shapes (first B).unit)
  pub unit : 0 < length A → (last A).unit ≡ (first B).unit
  -- of a unit that is not shared the uses are of one family
  pub family : 0 < length A → is_shared (sharing_of G.sharings (first B).unit) ≡ false → family_number (family_of G.families (first A).queue) ≡ family_number (family_of G.families (last A).queue)

module _ (G : Grouping) (shapes : List Shape) (A B : List Use) (P : AreAfter G shapes A B) where
  abbrev family : Family
  family = family_of G.families (first B).queue

  abbrev shape : Shape
  shape = shape_at G.shapes (first B).unit

  laid-first : IsLaidOut shape (first B).layout
  laid-first = (P.fit_second 0 no_use P.some_second).layout

  laid-last : 0 < length A → IsLaidOut shape (last A).layout
  laid-last some = subst (λ unit. IsLaidOut (shape_at G.shapes unit) (last A).layout) (P.unit some) (P.fit_first (length A - 1) no_use (omega (arith, some))).layout

  entry : AreGood family (entry_masks B (first B).queue)
  entry = entry_good G B P.fit_second P.some_second

  -- BARRIERS

  barrier_right : 0 < length A → ObeysAll shapes family (barrier (piece_of G (first B).unit) (layouts_between A B) (barrier_masks A B (first B).queue))
  barrier_right some = barrier_obeys shapes family (piece_of G (first B).unit) shape (last A).layout (first B).layout (barrier_masks A B (first B).queue) P.piece (laid-last some).image laid-first (barrier_good G A B P.fit_first P.fit_second some P.some_second)

  init_right : is_some (first B).layout ≡ true → ObeysAll shapes family (init G B)
  init_right image = barrier_obeys shapes family (piece_of G (first B).unit) shape (Some Undefined) (first B).layout (entry_masks B (first B).queue) P.piece (sym image ∙ laid-first.image) laid-first entry

  alias_right : (L : List Use) → All (FitsIn G) L → has_uses L ≡ true → ObeysAll shapes family (item.Global (barrier_masks L B (first B).queue))
  alias_right L fit e = global_obeys shapes family (barrier_masks L B (first B).queue) (barrier_good G L B fit P.fit_second (some_from L e) P.some_second)

  -- TRANSFERS

  -- where they do not share the unit
  differ : 0 < length A → shares G.families G.sharings (first B).unit (first A).queue (first B).queue ≡ false → (family_number (family_of G.families (last A).queue) == family_number (family_of G.families (first B).queue)) ≡ false
  differ some e =
      let parts = or_parts (is_shared (sharing_of G.sharings (first B).unit)) (same_family G.families (first A).queue (first B).queue) e in
      ap (λ n. n == family_number (family_of G.families (first B).queue)) (sym (P.family some parts.0)) ∙ parts.1

  acquire_right : 0 < length A → shares G.families G.sharings (first B).unit (first A).queue (first B).queue ≡ false → ObeysAll shapes family (item.Acquire (transfer G A B (entry_masks B (first B).queue)))
  acquire_right some e = acquire_obeys shapes family (transfer G A B (entry_masks B (first B).queue)) (record {
    shape = shape;
    piece = P.piece;
    stand = stand shapes family shape (last A).layout (first B).layout (laid-last some) laid-first;
    defined = defined shapes family shape (last A).layout (first B).layout (laid-last some) laid-first;
    differ = differ some e;
    masks = entry;
  }) refl refl

  pub release_right : 0 < length A → shares G.families G.sharings (first B).unit (first A).queue (first B).queue ≡ false → ObeysAll shapes (family_of G.families (last A).queue) (item.Release (transfer G A B (release_masks A (last A).queue)))
  release_right some e = release_obeys shapes (family_of G.families (last A).queue) (transfer G A B (release_masks A (last A).queue)) (record {
    shape = shape;
    piece = P.piece;
    stand = stand shapes family shape (last A).layout (first B).layout (laid-last some) laid-first;
    defined = defined shapes family shape (last A).layout (first B).layout (laid-last some) laid-first;
    differ = differ some e;
    masks = release_good G A P.fit_first some;
  }) refl refl

  -- BEFORE A GROUP

  abbrev Right : Marked → Type 0
  Right = MarkedObeys G shapes

  module _ (L : List Use) (fit : All (FitsIn G) L) (g : ℕ) where
    abbrev made : PrologueKind → List Marked
    made kind = items_of kind G (prologue_between kind g A L B) A B

    kinds : (a s i l y : Bool) → has_uses A ≡ a → shares G.families G.sharings (first B).unit (first A).queue (first B).queue ≡ s → has_uses L ≡ l → is_some (first B).layout ≡ y → All Right (made (if a then (if s then Barrier else Handover) else if i then Nothing else first_kind l y))
    kinds true true i l y a s h m = one Right (does_prologue (prologue_between Barrier g A L B) (barrier (piece_of G (first B).unit) (layouts_between A B) (barrier_masks A B (first B).queue))) (barrier_right (some_from A a))
    kinds true false i l y a s h m = one Right (does_prologue (prologue_between Handover g A L B) (item.Acquire (transfer G A B (entry_masks B (first B).queue)))) (acquire_right (some_from A a) s)
    kinds false t true l y a s h m = All-nil Right
    kinds false t false false false a s h m = All-nil Right
    kinds false t false false true a s h m = one Right (does_prologue (prologue_between Init g A L B) (init G B)) (init_right m)
    kinds false t false true false a s h m = one Right (does_prologue (prologue_between Alias g A L B) (item.Global (barrier_masks L B (first B).queue))) (alias_right L fit h)
    kinds false t false true true a s h m =
        let global : Marked = Does (first B).queue None (item.Global (barrier_masks L B (first B).queue)) in
        let it : Marked = does_prologue (prologue_between AliasInit g A L B) (init G B) in
        All-append Right (global ∷ []) (it ∷ []) (one Right global (alias_right L fit h)) (one Right it (init_right m))

    pub prologue_right : All Right (prologue_items G (prologue_between (kind_of G A L B) g A L B) A B)
    prologue_right = kinds (has_uses A) (shares G.families G.sharings (first B).unit (first A).queue (first B).queue) (is_import G (first B).unit) (has_uses L) (is_some (first B).layout) refl refl refl refl
