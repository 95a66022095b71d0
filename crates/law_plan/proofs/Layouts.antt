-- Each access finds the layout that it wants.
use Rattle.std.proofs.Common.{◌≡◌, ◌⊎◌, inl, inr, ℕ, ◌+◌, ◌<◌, ◌≤◌, ◌||◌, true, false, List, None, Some, take, refl, sym, ap, ◌∙◌, subst, ⊎_elim, arith}
use Rattle.std.specs.Option.{option_map_or}
use Rattle.std.proofs.lemmas.Bool.{cases_Bool, or_left, or_right}
use Rattle.vk.specs.declared.layout.Layout.{Layout}
use Rattle.vk.specs.declared.layout.Layout.TheVariants.{Undefined}
use Rattle.law_plan.proofs.Clashes.{itself, piece_clash}
use Rattle.law_plan.proofs.KindTables.{plain_sets_none, release_changes_none, release_wants_none}
use Rattle.law_plan.proofs.Knit.{Acyclic}
use Rattle.law_plan.proofs.Lasts.{LastOf, LastAt, NoneAt, SortAt, last_or_none, last_of, sort_at, sorted_on}
use Rattle.law_plan.proofs.Listed.{Finds, finds_change, last_listed}
use Rattle.law_plan.proofs.Ranks.{rank, phase, At, at_of}
use Rattle.law_plan.proofs.Runs.{first_group, steady}
use Rattle.law_plan.proofs.Sorts.{layouts_sorted}
use Rattle.law_plan.specs.Crossings.{IsFull}
use Rattle.law_plan.specs.Local.{Local}
use Rattle.law_plan.specs.Nodes.{Nodes}
use Rattle.law_plan.specs.Plans.{Plan, First}
use Rattle.law_plan.specs.Spots.{Spot, at_prologue, at_member, at_release, at_reader, OfPrologue}
use Rattle.law_plan.specs.States.{Laid}
use Rattle.check_order.specs.Laws.{IsAsymmetric, IsIrreflexive}
use Rattle.check_order.specs.Orders.{Order}
use Rattle.check_state.specs.PieceStates.{last_on, layout_after, on_piece}
use Rattle.check_state.specs.StateValid.{LayoutAt}
use Rattle.check_sync.proofs.Ordered.{listed_of}
use Rattle.law_nodes.specs.Synchronized.{Synchronized}
use Rattle.check_access.proofs.KindFacts.{layout_changes, wanting_keeps}
use Rattle.check_access.specs.AccessKinds.{changes, sets_layout, sets_owner, transfers, wanted}
use Rattle.check_access.specs.ValidView.{Has, NodeAccessAt, ValidView}
use Rattle.check_access.specs.Views.{View, node_accesses_of}
use Rattle.check_access.specs.declared.access.Access.{Access}
use Rattle.check_access.specs.declared.access.AccessKind.{AccessKind}
use Rattle.check_access.specs.declared.node_access.NodeAccess.{NodeAccess}

layout_moves : (d : AccessKind) → sets_layout d ≡ true → (changes d || transfers d) ≡ true
layout_moves d h = or_left (changes d) (transfers d) (layout_changes d h)

module _ (F : Plan) (V : View) (N : Nodes) (D : IsFull V) (X : Local F V N) (S : ValidView V) (Y : Laid F V N) where
  -- an access at rank q wants the layout of group g, whose prologue or members it comes after, up to the next prologue; and the unit begins with one
  record Wants (p q : ℕ) (l : Layout) : Type 0 where
    group : ℕ
    piece : F.piece group ≡ p
    layout : Y.layout group ≡ l
    after : rank group 0 < q
    up_to : q ≤ rank (group + 1) 0
    begins : (i : ℕ) → First F group i → Y.sets i ≡ true

  wants_in : (n g : ℕ) (a : Access) (l : Layout) (s : Spot F V N n a g) → wanted a.kind ≡ Some l → Wants a.piece (rank g (phase F V N n a g s)) l
  wants_in n g a l (at_member {c = c} e m) w = record { group = g; piece = sym m.piece; layout = Y.member c g a l m w; after = omega arith; up_to = omega arith; begins = λ i first. Y.begins n g i a l (at_member e m) w first }
  wants_in n g a l (at_prologue e t) w =
      let u = Y.prologue g a l t w in
      let next : g ≡ u.0 + 1 = u.1 in
      record { group = u.0; piece = u.2 ∙ sym t.piece; layout = u.3; after = omega (arith, next); up_to = omega (arith, next); begins = λ i first. Y.begins n g i a l (at_prologue e t) w (record { same = first.same ∙ u.2; least = λ h k. first.least h (k ∙ sym u.2) }) }
  wants_in n g a l (at_release e r) w = absurd (release_wants_none a.kind l r.release w)
  wants_in n g a l (at_reader e r) w = absurd (none (sym (ap wanted (S.host (N.reader g) r.has.0 a r.has.1 (X.roles.readers g r.host))) ∙ w))
    where
      none : None ≡ Some l → ⊥
      none z = cc

  wants_at : (n q : ℕ) (a : Access) (l : Layout) → At F V N n a q → wanted a.kind ≡ Some l → Wants a.piece q l
  wants_at n q a l A w = subst (λ z. Wants a.piece z l) A.is (wants_in n A.group a l A.spot w)

  -- a layout is set by a prologue
  set_by_prologue : (x g : ℕ) (a : Access) (s : Spot F V N x a g) → sets_layout a.kind ≡ true → (phase F V N x a g s ≡ 0) × OfPrologue F V N g a
  set_by_prologue x g a (at_prologue e t) so = (refl, t)
  set_by_prologue x g a (at_member e m) so = absurd (plain_sets_none a.kind m.plain (or_left (sets_layout a.kind) (sets_owner a.kind) so))
  set_by_prologue x g a (at_reader e r) so = absurd (plain_sets_none a.kind r.plain (or_left (sets_layout a.kind) (sets_owner a.kind) so))
  set_by_prologue x g a (at_release e r) so = absurd (release_changes_none a.kind r.release (or_right (changes a.kind) (sets_layout a.kind) so))

  -- the last one set is that of the group
  module _ (p q : ℕ) (l : Layout) (W : Wants p q l) where
    prologue_sets : (k : ℕ) → F.piece k ≡ p → Y.sets k ≡ true → (x : ℕ) × (a : Access) × SortAt F V N sets_layout p x a (rank k 0)
    prologue_sets k pk h = let t = Y.there k h in sort_at F V N sets_layout p k 0 pk (N.prologue k, t.0, at_prologue refl t.1, refl, t.2)

    is_laid : (t r : ℕ) (d : Access) → LastAt F V N sets_layout p q t d r → layout_after d.kind ≡ l
    is_laid t r d L = go (set_by_prologue t L.is.at.group d L.is.at.spot L.is.sorted) L.is.at.is
      where
        go : (phase F V N t d L.is.at.group L.is.at.spot ≡ 0) × OfPrologue F V N L.is.at.group d → rank L.is.at.group (phase F V N t d L.is.at.group L.is.at.spot) ≡ r → layout_after d.kind ≡ l
        go (w, prologue) is = (Y.known L.is.at.group d prologue L.is.sorted).1 ∙ steady F X.grouped Y.layout p L.is.at.group W.group (sym prologue.piece ∙ L.is.piece) W.piece low (λ k a b pk pn. Y.steady k (pk ∙ sym pn) (unset k a b pn)) ∙ W.layout
          where
            here : r ≡ rank L.is.at.group 0
            here = omega (arith, is, w)

            low : L.is.at.group ≤ W.group
            low = let under = L.below in let over = W.up_to in omega (arith, here, under, over)

            unset : (k : ℕ) → L.is.at.group ≤ k → k < W.group → F.piece (k + 1) ≡ p → Y.sets (k + 1) ≡ false
            unset k a b pn = ⊎_elim (λ h. absurd (hit (prologue_sets (k + 1) pn h))) (λ h. h) (cases_Bool (Y.sets (k + 1)))
              where
                hit : (x : ℕ) × (c : Access) × SortAt F V N sets_layout p x c (rank (k + 1) 0) → ⊥
                hit (x, c, A) = let after = W.after in L.none x (rank (k + 1) 0) c A (omega (arith, here, a)) (omega (arith, b, after))

    some_laid : NoneAt F V N sets_layout p q → ⊥
    some_laid none = go (first_group F X.grouped W.group)
      where
        go : (i : ℕ) × First F W.group i → ⊥
        go (i, first) =
            let A = prologue_sets i (first.same ∙ W.piece) (W.begins i first) in
            let low = first.least W.group refl in
            let after = W.after in
            none A.0 (rank i 0) A.1 A.2 (omega (arith, low, after))

  laid_by : Acyclic V → (n : ℕ) (l : Layout) (a : Access) → Has V n a → wanted a.kind ≡ Some l → (t : ℕ) × (d : Access) × LastOf V (on_piece a.piece sets_layout) n t d × (layout_after d.kind ≡ l)
  laid_by C n l a ha w = at (at_of F V N D X n a ha)
    where
      at : (q : ℕ) × At F V N n a q → (t : ℕ) × (d : Access) × LastOf V (on_piece a.piece sets_layout) n t d × (layout_after d.kind ≡ l)
      at (q, B) = go (wants_at n q a l B w) (last_or_none F V N sets_layout a.piece (layouts_sorted F V N Y) q)
        where
          go : Wants a.piece q l → ((t : ℕ) × (d : Access) × (r : ℕ) × LastAt F V N sets_layout a.piece q t d r) ⊎ NoneAt F V N sets_layout a.piece q → (t : ℕ) × (d : Access) × LastOf V (on_piece a.piece sets_layout) n t d × (layout_after d.kind ≡ l)
          go W (inl (t, d, r, L)) = (t, d, last_of F V N D X C sets_layout layout_moves n q a B (itself V S n a ha) t r d L, is_laid a.piece q l W t r d L)
          go W (inr none) = absurd (some_laid a.piece q l W none)

  -- in every order each access finds the layout that it wants
  pub laid_at : (order : List ℕ) (O : Order V.nodes order) → IsIrreflexive V.nodes → IsAsymmetric V.nodes → Synchronized V → (j : ℕ) (b : NodeAccess) → NodeAccessAt (node_accesses_of V order) j b → LayoutAt (node_accesses_of V order) j b
  laid_at order O I A T j b hb l w = by (laid_by (I order O) b.node l b.access has w)
    where
      has : Has V b.node b.access
      has = (listed_of V order j b hb).1

      finds : Finds V (on_piece b.access.piece sets_layout) b.node b.access
      finds = finds_change V S (on_piece b.access.piece sets_layout) (λ v c h. layout_changes c.kind (sorted_on sets_layout b.access.piece v c h).1) b.node b.access (wanting_keeps b.access.kind l w)
          (λ v c h. piece_clash V b.access.piece c b.access (itself V S b.node b.access has) (sorted_on sets_layout b.access.piece v c h).0 refl (layout_moves c.kind (sorted_on sets_layout b.access.piece v c h).1))

      by : (t : ℕ) × (d : Access) × LastOf V (on_piece b.access.piece sets_layout) b.node t d × (layout_after d.kind ≡ l) → option_map_or (λ a. layout_after a.access.kind) (last_on sets_layout b.access.piece (take j (node_accesses_of V order))) Undefined ≡ l
      by (t, d, L, is) = ap (λ z. option_map_or (λ a. layout_after a.access.kind) z Undefined) (last_listed V S T order O I A (on_piece b.access.piece sets_layout) j b hb finds t d L) ∙ is
