-- Which transfers of ownership there are.
use Rattle.std.proofs.Common.{◌≡◌, ℕ, suc, ◌+◌, ◌<◌, ◌||◌, Bool, true, false, List, [], ◌∷◌, length, slice_get, if◌then◌else◌, Option, Some, None, refl, sym, ap, ◌∙◌, subst, arith}
use Rattle.std.specs.List.{All, Contains}
use Rattle.std.specs.Option.{option_map_or}
use Rattle.std.proofs.lemmas.Bool.{and_from}
use Rattle.std.proofs.lemmas.List.Elements.{All-nil, All-append, Contains-append_right}
use Rattle.base.proofs.Lists.{one}
use Rattle.base.specs.declared.shape.Shape.{Shape}
use Rattle.vk.specs.Layouts.{is_undefined}
use Rattle.vk.specs.declared.layout.Layout.TheVariants.{Undefined}
use Rattle.vk.specs.declared.layout.Layouts.{Layouts}
use Rattle.vk.specs.declared.masks.Masks.{Masks}
use Rattle.law_sound.proofs.Groups.{next_unit, next_within}
use Rattle.law_sound.proofs.Setting.{IsSet}
use Rattle.law_sound.proofs.SpotFacts.{entry_got}
use Rattle.law_sound.proofs.Spots.{item_access, leaving_item, piece_is, release_access, release_stands, prologue_access, prologue_stands}
use Rattle.law_sound.proofs.PrologueAccesses.{is_next, next_after, prologue_all}
use Rattle.law_sound.proofs.PrologueKinds.{earlier_is, released_goes, released_transfer}
use Rattle.law_sound.specs.Nodes.{nodes_of, release_node, release_queue, prologue_node, prologue_queue}
use Rattle.law_sound.specs.Plan.{plan_of}
use Rattle.law_plan.specs.Nodes.{Nodes}
use Rattle.law_plan.specs.Plans.{Plan}
use Rattle.law_plan.specs.Spots.{OfPrologue, OfRelease}
use Rattle.law_plan.specs.States.{Handed}
use Rattle.compile_groups.specs.Groups.{family_of}
use Rattle.compile_groups.specs.Needs.{group_at, goes_on}
use Rattle.compile_groups.specs.declared.grouping.Grouping.{Grouping}
use Rattle.compile_groups.specs.declared.unit_use.Use.{Use}
use Rattle.compile_record.specs.Items.{barrier, both, layouts_between, transfer}
use Rattle.compile_record.specs.Pieces.{piece_of}
use Rattle.compile_record.specs.Standing.{item_by, prologue_item}
use Rattle.compile_record.specs.Wanted.{is_there}
use Rattle.program.specs.Rules.{shapes_of}
use Rattle.program.specs.declared.program.Item.TheVariants as item
use Rattle.program.specs.declared.program.Program.{Program}
use Rattle.program.specs.declared.program.Transfer.{Transfer}
use Rattle.compile_barriers.specs.Masks.{entry_masks, release_masks}
use Rattle.compile_barriers.specs.Prologues.{earlier, first, is_transfer, last, prologue_of}
use Rattle.compile_barriers.specs.Under.{Heap}
use Rattle.compile_barriers.specs.declared.prologue.Prologue.{Prologue}
use Rattle.compile_barriers.specs.declared.prologue.PrologueKind.{PrologueKind}
use Rattle.compile_barriers.specs.declared.prologue.PrologueKind.TheVariants as kinds
use Rattle.check_access.specs.Effects.{access, acquire_accesses, handover_of, item_effect, layout_change, same_layout, transition_through}
use Rattle.check_access.specs.ValidView.{Has}
use Rattle.check_access.specs.Views.{View, view_of}
use Rattle.check_access.specs.declared.access.Access.{Access}
use Rattle.check_access.specs.declared.access.AccessKind.TheVariants as access_kinds
use Rattle.check_access.specs.declared.access.Handover.{Handover}

-- between the uses A and the uses B
abbrev between : Grouping → List Use → List Use → Handover
between G A B = record { from = family_of G.families (last A).queue; to = family_of G.families (first B).queue; layouts = layouts_between A B }

-- WHICH TURNS ACQUIRE

-- an access that acquires is of a transfer, and acquires that
record IsAcquired (kind : PrologueKind) (handover : Handover) (a : Access) : Type 0 where
  only : (what : Handover) → a.kind ≡ access_kinds.Acquire what → (kind ≡ kinds.Transfer) × (what ≡ handover)

no_acquire : (layouts : Layouts) (what : Handover) → access_kinds.Transition layouts ≡ access_kinds.Acquire what → ⊥
no_acquire layouts what e = cc

same_acquire : (x y : Handover) → access_kinds.Acquire x ≡ access_kinds.Acquire y → y ≡ x
same_acquire x y e = cc

module _ (kind : PrologueKind) (handover : Handover) where
  through_none : (p : ℕ) (layouts : Layouts) → All (IsAcquired kind handover) (transition_through p layouts)
  through_none p layouts = go (is_undefined layouts.from || same_layout layouts)
    where
      go : (b : Bool) → All (IsAcquired kind handover) (if b then [] else access p (access_kinds.Transition layouts) ∷ [])
      go true = All-nil (IsAcquired kind handover)
      go false = one (IsAcquired kind handover) (access p (access_kinds.Transition layouts)) (record { only = λ what e. absurd (no_acquire layouts what e) })

  change_none : (p : ℕ) (layouts : Layouts) → All (IsAcquired kind handover) (layout_change p layouts)
  change_none p layouts = go (is_undefined layouts.from)
    where
      no_discard : (what : Handover) → access_kinds.Discard layouts.to ≡ access_kinds.Acquire what → ⊥
      no_discard what e = cc

      go : (b : Bool) → All (IsAcquired kind handover) (if b then access p (access_kinds.Discard layouts.to) ∷ [] else transition_through p layouts)
      go true = one (IsAcquired kind handover) (access p (access_kinds.Discard layouts.to)) (record { only = λ what e. absurd (no_discard what e) })
      go false = through_none p layouts

  barrier_none : (shapes : List Shape) (q p : ℕ) (layouts : Option Layouts) (masks : Masks) → All (IsAcquired kind handover) (item_effect shapes q (barrier p layouts masks)).accesses
  barrier_none shapes q p (Some layouts) masks = change_none p layouts
  barrier_none shapes q p None masks = All-nil (IsAcquired kind handover)

  acquire_one : (t : Transfer) → kind ≡ kinds.Transfer → handover_of t ≡ handover → All (IsAcquired kind handover) (acquire_accesses t)
  acquire_one t is same = All-append (IsAcquired kind handover) (option_map_or (transition_through t.piece) t.layouts []) (access t.piece (access_kinds.Acquire (handover_of t)) ∷ [])
      (go t.layouts)
      (one (IsAcquired kind handover) (access t.piece (access_kinds.Acquire (handover_of t))) (record { only = λ what e. (is, same_acquire (handover_of t) what e ∙ same) }))
    where
      go : (o : Option Layouts) → All (IsAcquired kind handover) (option_map_or (transition_through t.piece) o [])
      go (Some layouts) = through_none t.piece layouts
      go None = All-nil (IsAcquired kind handover)

prologue_acquires : (shapes : List Shape) (q : ℕ) (kind : PrologueKind) (G : Grouping) (prologue : Prologue) (A B : List Use) → All (IsAcquired kind (between G A B)) (item_effect shapes q (item_by kind G prologue A B)).accesses
prologue_acquires shapes q kinds.Nothing G prologue A B = All-nil (IsAcquired kinds.Nothing (between G A B))
prologue_acquires shapes q kinds.Barrier G prologue A B = barrier_none kinds.Barrier (between G A B) shapes q (piece_of G (first B).unit) (layouts_between A B) prologue.masks
prologue_acquires shapes q kinds.Transfer G prologue A B = acquire_one kinds.Transfer (between G A B) (transfer G A B prologue.masks) refl refl
prologue_acquires shapes q kinds.Alias G prologue A B = All-nil (IsAcquired kinds.Alias (between G A B))
prologue_acquires shapes q kinds.Init G prologue A B = barrier_none kinds.Init (between G A B) shapes q (piece_of G (first B).unit) (both (Some Undefined) (first B).layout) (entry_masks B (first B).queue)
prologue_acquires shapes q kinds.AliasInit G prologue A B = barrier_none kinds.AliasInit (between G A B) shapes q (piece_of G (first B).unit) (both (Some Undefined) (first B).layout) (entry_masks B (first B).queue)

module _ (G : Grouping) (heap : Heap) (P : Program) (S : IsSet G heap P) where
  abbrev F : Plan
  F = plan_of G heap

  abbrev V : View
  V = view_of P

  abbrev N : Nodes
  N = nodes_of G heap

  abbrev handover : ℕ → Handover
  handover g = between G (group_at G g) (group_at G (suc g))

  goes : (g : ℕ) → N.released g ≡ true → goes_on G g ≡ true
  goes g r = released_goes G S.grouped heap g r

  low : (g : ℕ) → N.released g ≡ true → suc g < length G.groups
  low g r = next_within G S.grouped g (goes g r)

  next_piece : (g : ℕ) → N.released g ≡ true → F.piece g ≡ F.piece (g + 1)
  next_piece g r =
      let within = low g r in
      let number : suc g ≡ g + 1 = omega arith in
      piece_is G heap P S g (omega (arith, within)) ∙ ap (piece_of G) (next_unit G S.grouped g (goes g r)) ∙ sym (piece_is G heap P S (suc g) within) ∙ ap F.piece number

  abbrev leaving : ℕ → Transfer
  leaving g = transfer G (group_at G g) (group_at G (suc g)) (release_masks (group_at G g) (release_queue G g))

  releases : (g : ℕ) → N.released g ≡ true → (a : Access) × OfRelease F V N g a
  releases g r =
      let within = low g r in
      let below : g < length G.groups = omega (arith, within) in
      let a : Access = access (leaving g).piece (access_kinds.Release (handover_of (leaving g))) in
      (a, release_access G heap P S g (below, r) a (0, ap (λ x. slice_get x.accesses 0) (release_stands G heap P S g (below, r)).effect))

  released_is : (g : ℕ) (a : Access) → OfRelease F V N g a → a.kind ≡ access_kinds.Release (handover g)
  released_is g a O =
      let within = low g O.released in
      item_access G heap P S (λ (x : Access). x.kind ≡ access_kinds.Release (handover g)) (release_node G heap g) (release_queue G g) (leaving_item G heap P S g) a
      (release_stands G heap P S g (omega (arith, within), O.released))
      (one (λ (x : Access). x.kind ≡ access_kinds.Release (handover g)) (access (leaving g).piece (access_kinds.Release (handover_of (leaving g)))) refl)
      O.has

  acquires : (g : ℕ) → N.released g ≡ true → (a : Access) × OfPrologue F V N (g + 1) a × (a.kind ≡ access_kinds.Acquire (handover g))
  acquires g r =
      let h : ℕ = suc g in
      let within = low g r in
      let kind : (prologue_of G heap h).kind ≡ kinds.Transfer = released_transfer G S.grouped heap g r in
      let t : Transfer = transfer G (earlier G h) (group_at G h) (prologue_of G heap h).masks in
      let is : prologue_item G heap h ≡ item.Acquire t = ap (λ k. item_by k G (prologue_of G heap h) (earlier G h) (group_at G h)) kind in
      let a : Access = access t.piece (access_kinds.Acquire (handover_of t)) in
      let there : Contains (acquire_accesses t) a = Contains-append_right (option_map_or (transition_through t.piece) t.layouts []) (a ∷ []) a (0, omega arith, refl) in
      let E = entry_got (acquire_accesses t) a there in
      let recorded : (h < length G.groups) × (is_there (prologue_of G heap h).kind ≡ true) = (within, ap is_there kind) in
      let has : Has V (prologue_node G heap h) a = (E.0, ap (λ x. slice_get x.accesses E.0) (prologue_stands G heap P S h recorded).effect ∙ ap (λ x. slice_get (item_effect (shapes_of P) (prologue_queue G h) x).accesses E.0) is ∙ E.1) in
      let number : h ≡ g + 1 = omega arith in
      (a, subst (λ n. OfPrologue F V N n a) number (prologue_access G heap P S h recorded a has), ap (λ A. access_kinds.Acquire (between G A (group_at G h))) (earlier_is G S.grouped heap g (goes g r)))

  acquired_is : (h : ℕ) (a : Access) (what : Handover) → OfPrologue F V N h a → a.kind ≡ access_kinds.Acquire what → (g : ℕ) × (h ≡ g + 1) × (N.released g ≡ true) × (what ≡ handover g)
  acquired_is h a what O e =
      let Q = prologue_all G heap P S (IsAcquired (prologue_of G heap h).kind (between G (earlier G h) (group_at G h))) h a O (prologue_acquires (shapes_of P) (prologue_queue G h) (prologue_of G heap h).kind G (prologue_of G heap h) (earlier G h) (group_at G h)) in
      let found = Q.only what e in
      let A = next_after G heap h (ap is_next found.0) in
      let g : ℕ = A.0 in
      let number = A.1.number in
      let more : g + 1 ≡ suc g = omega arith in
      let kind : (prologue_of G heap (suc g)).kind ≡ kinds.Transfer = ap (λ n. (prologue_of G heap n).kind) (sym number) ∙ found.0 in (
        g,
        number ∙ sym more,
        and_from (goes_on G g) (is_transfer (prologue_of G heap (suc g)).kind) A.1.goes (ap is_transfer kind),
        found.1 ∙ ap (λ n. between G (earlier G n) (group_at G n)) number ∙ ap (λ uses. between G uses (group_at G (suc g))) (earlier_is G S.grouped heap g A.1.goes),
      )

  pub handed : Handed F V N
  handed = record {
    handover = handover;
    next = next_piece;
    release = releases;
    acquire = acquires;
    released = released_is;
    acquired = acquired_is;
  }
