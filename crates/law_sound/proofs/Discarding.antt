-- Which prologues discard.
use Rattle.std.proofs.Common.{◌≡◌, ⊎_elim, ℕ, zero, suc, ◌<◌, ◌||◌, Bool, true, false, List, [], ◌∷◌, ◌++◌, length, if◌then◌else◌, Option, Some, None, refl, sym, ap, ◌∙◌, subst, arith}
use Rattle.std.specs.List.{All}
use Rattle.std.specs.Option.{option_map_or}
use Rattle.std.specs.Prelude.{is_some}
use Rattle.std.proofs.lemmas.Bool.{cases_lt, false≢true}
use Rattle.std.proofs.lemmas.List.Elements.{All-nil, All-append}
use Rattle.base.proofs.Lists.{one}
use Rattle.base.specs.Shapes.{is_image, shape_at}
use Rattle.base.specs.declared.shape.Shape.{Shape}
use Rattle.vk.specs.Layouts.{is_undefined}
use Rattle.vk.specs.declared.layout.Layout.{Layout}
use Rattle.vk.specs.declared.layout.Layout.TheVariants.{Undefined}
use Rattle.vk.specs.declared.layout.Layouts.{Layouts}
use Rattle.vk.specs.declared.masks.Masks.{Masks}
use Rattle.law_sound.proofs.Grouped.{AreNext, of_unit, of_export, next, rising}
use Rattle.law_sound.proofs.Groups.{next_within, some_use}
use Rattle.law_sound.proofs.LaidBy.{last_there}
use Rattle.law_sound.proofs.LaidOut.{first_known, is_init, use_known}
use Rattle.law_sound.proofs.Setting.{IsSet}
use Rattle.law_sound.proofs.PrologueAccesses.{is_next, next_after, prologue_all, prologue_low}
use Rattle.law_sound.proofs.PrologueKinds.{earlier_is}
use Rattle.law_sound.specs.Nodes.{nodes_of, prologue_queue}
use Rattle.law_sound.specs.Plan.{plan_of, resource_of, unit_of}
use Rattle.law_plan.specs.Nodes.{Nodes}
use Rattle.law_plan.specs.Plans.{First, Plan}
use Rattle.law_plan.specs.Spots.{OfPrologue}
use Rattle.compile_groups.specs.Groups.{shares}
use Rattle.compile_groups.specs.Needs.{group_at}
use Rattle.compile_groups.specs.Placed.{is_import}
use Rattle.compile_groups.specs.declared.grouping.Grouping.{Grouping}
use Rattle.compile_groups.specs.declared.unit_use.Use.{Use}
use Rattle.compile_record.specs.Items.{barrier, both, layouts_between, transfer}
use Rattle.compile_record.specs.Pieces.{piece_of}
use Rattle.compile_record.specs.Standing.{item_by}
use Rattle.program.specs.Rules.{shapes_of}
use Rattle.program.specs.declared.program.Program.{Program}
use Rattle.compile_barriers.specs.Masks.{entry_masks}
use Rattle.compile_barriers.specs.Prologues.{earlier, first, first_kind, has_uses, last, next_kind, prologue_of}
use Rattle.compile_barriers.specs.Under.{Heap, place_of, uses_under}
use Rattle.compile_barriers.specs.declared.prologue.Prologue.{Prologue}
use Rattle.compile_barriers.specs.declared.prologue.PrologueKind.{PrologueKind}
use Rattle.compile_barriers.specs.declared.prologue.PrologueKind.TheVariants as kinds
use Rattle.check_access.specs.AccessKinds.{is_discard}
use Rattle.check_access.specs.Effects.{access, handover_of, item_effect, layout_change, same_layout, transition_through}
use Rattle.check_access.specs.Views.{View, view_of}
use Rattle.check_access.specs.declared.access.Access.{Access}
use Rattle.check_access.specs.declared.access.AccessKind.TheVariants as access_kinds

-- what discards is out of UNDEFINED
record IsDiscarding (kind : PrologueKind) (a : Access) : Type 0 where
  begins : is_discard a.kind ≡ true → is_init kind ≡ true

module _ (kind : PrologueKind) where
  through_discards : (p : ℕ) (layouts : Layouts) → All (IsDiscarding kind) (transition_through p layouts)
  through_discards p layouts = go (is_undefined layouts.from || same_layout layouts)
    where
      go : (b : Bool) → All (IsDiscarding kind) (if b then [] else access p (access_kinds.Transition layouts) ∷ [])
      go true = All-nil (IsDiscarding kind)
      go false = one (IsDiscarding kind) (access p (access_kinds.Transition layouts)) (record { begins = λ e. absurd (false≢true e) })

  -- from a known layout nothing is discarded
  change_discards : (p : ℕ) (from to : Layout) → is_undefined from ≡ false → All (IsDiscarding kind) (layout_change p (record { from = from; to = to }))
  change_discards p from to known = subst (λ b. All (IsDiscarding kind) (if b then access p (access_kinds.Discard to) ∷ [] else transition_through p (record { from = from; to = to }))) (sym known) (through_discards p (record { from = from; to = to }))

  barrier_discards : (shapes : List Shape) (q p : ℕ) (x y : Option Layout) (masks : Masks) → ((l : Layout) → x ≡ Some l → is_undefined l ≡ false) → All (IsDiscarding kind) (item_effect shapes q (barrier p (both x y) masks)).accesses
  barrier_discards shapes q p (Some from) (Some to) masks known = change_discards p from to (known from refl)
  barrier_discards shapes q p (Some from) None masks known = All-nil (IsDiscarding kind)
  barrier_discards shapes q p None y masks known = All-nil (IsDiscarding kind)

  init_discards : (shapes : List Shape) (q p : ℕ) (y : Option Layout) (masks : Masks) → is_init kind ≡ true → All (IsDiscarding kind) (item_effect shapes q (barrier p (both (Some Undefined) y) masks)).accesses
  init_discards shapes q p (Some to) masks k = one (IsDiscarding kind) (access p (access_kinds.Discard to)) (record { begins = λ e. k })
  init_discards shapes q p None masks k = All-nil (IsDiscarding kind)

  acquire_discards : (p : ℕ) (o : Option Layouts) (last_one : Access) → is_discard last_one.kind ≡ false → All (IsDiscarding kind) (option_map_or (transition_through p) o [] ++ last_one ∷ [])
  acquire_discards p o last_one none = All-append (IsDiscarding kind) (option_map_or (transition_through p) o []) (last_one ∷ []) (go o) (one (IsDiscarding kind) last_one (record { begins = λ e. absurd (false≢true (sym none ∙ e)) }))
    where
      go : (o : Option Layouts) → All (IsDiscarding kind) (option_map_or (transition_through p) o [])
      go (Some layouts) = through_discards p layouts
      go None = All-nil (IsDiscarding kind)

prologue_discards : (shapes : List Shape) (q : ℕ) (kind : PrologueKind) (G : Grouping) (prologue : Prologue) (A B : List Use) → (is_next kind ≡ true → (l : Layout) → (last A).layout ≡ Some l → is_undefined l ≡ false) → All (IsDiscarding kind) (item_effect shapes q (item_by kind G prologue A B)).accesses
prologue_discards shapes q kinds.Nothing G prologue A B known = All-nil (IsDiscarding kinds.Nothing)
prologue_discards shapes q kinds.Barrier G prologue A B known = barrier_discards kinds.Barrier shapes q (piece_of G (first B).unit) (last A).layout (first B).layout prologue.masks (known refl)
prologue_discards shapes q kinds.Transfer G prologue A B known = acquire_discards kinds.Transfer (piece_of G (first B).unit) (layouts_between A B) (access (piece_of G (first B).unit) (access_kinds.Acquire (handover_of (transfer G A B prologue.masks)))) refl
prologue_discards shapes q kinds.Alias G prologue A B known = All-nil (IsDiscarding kinds.Alias)
prologue_discards shapes q kinds.Init G prologue A B known = init_discards kinds.Init shapes q (piece_of G (first B).unit) (first B).layout (entry_masks B (first B).queue) refl
prologue_discards shapes q kinds.AliasInit G prologue A B known = init_discards kinds.AliasInit shapes q (piece_of G (first B).unit) (first B).layout (entry_masks B (first B).queue) refl

next_no_init : (b : Bool) → is_init (if b then kinds.Barrier else kinds.Transfer) ≡ false
next_no_init true = refl
next_no_init false = refl

no_image_init : (reused : Bool) → is_init (first_kind reused false) ≡ false
no_image_init true = refl
no_image_init false = refl

module _ (G : Grouping) (heap : Heap) (P : Program) (S : IsSet G heap P) where
  abbrev F : Plan
  F = plan_of G heap

  abbrev V : View
  V = view_of P

  abbrev N : Nodes
  N = nodes_of G heap

  -- a barrier out of UNDEFINED stands before the first group of an image
  record IsBeginning (g : ℕ) : Type 0 where
    alone : has_uses (earlier G g) ≡ false
    image : is_some (first (group_at G g)).layout ≡ true

  init_begins : (g : ℕ) → is_init (prologue_of G heap g).kind ≡ true → IsBeginning g
  init_begins g e = go (has_uses (earlier G g)) (is_import G (first B).unit) (is_some (first B).layout) refl refl e
    where
      B : List Use
      B = group_at G g

      reused : Bool
      reused = has_uses (uses_under G heap (place_of G (first B).unit))

      go : (some im image : Bool) → has_uses (earlier G g) ≡ some → is_some (first B).layout ≡ image → is_init (if some then next_kind G (earlier G g) B else if im then kinds.Nothing else first_kind reused image) ≡ true → IsBeginning g
      go true im image es ei f = absurd (false≢true (sym (next_no_init (shares G.families G.sharings (first B).unit (first (earlier G g)).queue (first B).queue)) ∙ f))
      go false true image es ei f = absurd (false≢true f)
      go false false false es ei f = absurd (false≢true (sym (no_image_init reused) ∙ f))
      go false false true es ei f = record { alone = es; image = ei }

  -- between two groups an image is in a known layout
  known_before : (h : ℕ) → is_next (prologue_of G heap h).kind ≡ true → (l : Layout) → (last (earlier G h)).layout ≡ Some l → is_undefined l ≡ false
  known_before h e l is =
      let A = next_after G heap h e in
      let g : ℕ = A.0 in
      let within = next_within G S.grouped g A.1.goes in
      let low : g < length G.groups = omega (arith, within) in
      let own : (last (earlier G h)).layout ≡ (last (group_at G g)).layout = ap (λ n. (last (earlier G n)).layout) A.1.number ∙ ap (λ uses. (last uses).layout) (earlier_is G S.grouped heap g A.1.goes) in
      (use_known G S.grouped g (last (group_at G g)) low (last_there G heap P S g low)).known l (sym own ∙ is)

  discard_begins : (g : ℕ) (a : Access) → OfPrologue F V N g a → is_discard a.kind ≡ true → IsBeginning g
  discard_begins g a O e =
      let Q = prologue_all G heap P S (IsDiscarding (prologue_of G heap g).kind) g a O (prologue_discards (shapes_of P) (prologue_queue G g) (prologue_of G heap g).kind G (prologue_of G heap g) (earlier G g) (group_at G g) (known_before g)) in
      init_begins g (Q.begins e)

  -- which is the first one of its unit
  beginning_first : (g : ℕ) → g < length G.groups → has_uses (earlier G g) ≡ false → First F g g
  beginning_first g lt alone = record { same = refl; least = λ h e. ⊎_elim (λ (low : h < g). absurd (later g lt alone h low e)) (λ le. le) (cases_lt h g) }
    where
      later : (n : ℕ) → n < length G.groups → has_uses (earlier G n) ≡ false → (h : ℕ) → h < n → F.piece h ≡ F.piece n → ⊥
      later zero below none h low e = omega (arith, low)
      later (suc j) below none h low e =
          let up = rising G S.grouped S.known h j (omega (arith, low)) in
          let more = rising G S.grouped S.known j (suc j) (omega arith) in
          let same : piece_of G (resource_of G j) ≡ piece_of G (resource_of G (suc j)) = omega (arith, up, more, e) in
          go (next G S.grouped S.known j same)
        where
          some : (A : List Use) → 0 < length A → has_uses A ≡ true
          some [] l = absurd (omega (arith, l))
          some (u ∷ A) l = refl

          go : AreNext G j → ⊥
          go (of_unit within goes) = false≢true (sym none ∙ ap (λ b. has_uses (if b then group_at G j else [])) goes ∙ some (group_at G j) (some_use G S.grouped j (omega (arith, within))))
          go (of_export le copy read one) = omega (arith, le, below)

  pub discards : (g : ℕ) (a : Access) → OfPrologue F V N g a → is_discard a.kind ≡ true → First F g g
  discards g a O e = beginning_first g (prologue_low G heap P S g a O).recorded.0 (discard_begins g a O e).alone

  pub discards_image : (g : ℕ) (a : Access) → OfPrologue F V N g a → is_discard a.kind ≡ true → is_image (shape_at G.shapes (unit_of G g)) ≡ true
  discards_image g a O e = let lt = (prologue_low G heap P S g a O).recorded.0 in sym (first_known G S.grouped g lt).image ∙ (discard_begins g a O e).image
