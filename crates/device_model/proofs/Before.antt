-- What a node finds of earlier accesses in an order is what it finds of what happens before it.
use Rattle.std.proofs.Common.{◌≡◌, ◌⊎◌, inl, inr, ℕ, ◌<◌, ◌≤◌, Bool, true, false, ◌==◌, List, take, slice_get, Option, Some, None, refl, sym, ap, ◌∙◌, subst, ⊎_elim, eq-eqb, eqb-true, arith}
use Rattle.std.specs.Option.{option_map_or}
use Rattle.std.proofs.lemmas.Bool.{false≢true, cases_eq, cases_lt, and_parts, and_from}
use Rattle.base.specs.Shapes.{bytes_of}
use Rattle.vk.specs.declared.layout.Layout.{Layout}
use Rattle.vk.specs.declared.layout.Layout.TheVariants as layouts
use Rattle.device_model.proofs.Formed.{Formed, after_owner}
use Rattle.device_model.proofs.Found.{InitializedBy, LastOf, NoneOf, LayoutBy, OwnerBy, Finds}
use Rattle.device_model.proofs.Listed.{Latest, latest, latest_none}
use Rattle.device_model.proofs.Cases.{owner_moves}
use Rattle.device_model.proofs.Shared.{overlap_self, clash_change, clash_transfer}
use Rattle.check_order.proofs.InOrder.{not_both, goes_forward}
use Rattle.check_order.specs.Orders.{Earlier, Order}
use Rattle.check_state.specs.Initialized as initialized_specs
use Rattle.check_state.specs.Initialized.{Initialized}
use Rattle.check_state.specs.PieceStates.{on_piece, last_on, changes_bytes, last_change, layout_after, owner_after, first_owner}
use Rattle.check_state.specs.StateValid.{StateValid, needs_owner}
use Rattle.check_access_order.proofs.Sites.{has_within}
use Rattle.check_sync.proofs.Ordered.{listed_in, listed_of, not_earlier}
use Rattle.law_nodes.specs.Passing.{Before}
use Rattle.law_nodes.specs.Synchronized.{Synchronized}
use Rattle.check_access.proofs.KindFacts.{layout_changes, load_keeps, wanting_keeps}
use Rattle.check_access.specs.AccessKinds.{changes, loads, sets_layout, sets_owner, transfers, wanted}
use Rattle.check_access.proofs.Listing.{listed}
use Rattle.check_access.specs.ValidView.{Has, Precedes, NodeAccessAt}
use Rattle.check_access.specs.Views.{View, node_accesses_of, node_access, overlap, clash, family_at, piece_at}
use Rattle.check_access.specs.declared.access.Access.{Access}
use Rattle.check_access.specs.declared.access.AccessKind.{AccessKind}
use Rattle.check_access.specs.declared.node_access.NodeAccess.{NodeAccess}

-- a sort of accesses that clash with every access of their piece
abbrev Sorted : View → (AccessKind → Bool) → Type 0
Sorted V sort = (a b : Access) → sort a.kind ≡ true → a.piece ≡ b.piece → 0 < bytes_of (piece_at V b.piece).shape → clash V a b ≡ true

layouts_sorted : (V : View) → Sorted V sets_layout
layouts_sorted V a b h e z = clash_change V a b (layout_changes a.kind h) (subst (λ p. overlap V p b.piece ≡ true) (sym e) (overlap_self V b.piece z))

owners_sorted : (V : View) → Sorted V sets_owner
owners_sorted V a b h e z = ⊎_elim (λ c. clash_change V a b c (subst (λ p. overlap V p b.piece ≡ true) (sym e) (overlap_self V b.piece z))) (λ t. clash_transfer V a b t e) (owner_moves a.kind h)

module _ (V : View) (F : Formed V) (order : List ℕ) (O : Order V.nodes order) (T : Synchronized V) where
  abbrev accesses : List NodeAccess
  accesses = node_accesses_of V order

  before_to : (x n : ℕ) → Before V x n → Earlier order x n
  before_to x n p = goes_forward V.nodes order O x n p

  -- of two accesses that clash the first's node is the second's or happens before it, where the second's does not stand earlier
  synchronized_forward : (v w : ℕ) (d c : Access) → Has V v d → Has V w c → clash V d c ≡ true → (Earlier order w v → ⊥) → (v ≡ w) ⊎ Before V v w
  synchronized_forward v w d c hd hc clashes never = ⊎_elim
      (λ e. inl e)
      (λ ne. ⊎_elim (λ p. inr p) (λ p. absurd (never (before_to w v p))) (T.ordered v w d c hd hc (record { apart = ne; clash = clashes })))
      (cases_eq v w)

  -- access a of node n stands at place j
  module _ (n : ℕ) (a : Access) (j : ℕ) (at : NodeAccessAt (node_accesses_of V order) j (node_access n a)) where
    -- an access of a node that happens before n stands before it
    placed : (v : ℕ) (d : Access) → Has V v d → Before V v n → (k : ℕ) × (k < j) × NodeAccessAt (node_accesses_of V order) k (node_access v d)
    placed v d hd p = go (cases_lt k.0 j)
      where
        k : (k : ℕ) × NodeAccessAt (node_accesses_of V order) k (node_access v d)
        k = listed_in V order v d (O.all v (has_within V v d F.shaped hd)) hd

        never : n ≡ v → ⊥
        never e = let h = subst (λ z. Earlier order z n) (sym e) (before_to v n p) in not_both order n n h h

        later : (j < k.0) ⊎ (k.0 ≤ j) → j ≤ k.0 → ⊥
        later (inl lt) ge = not_earlier V order O.once j k.0 (node_access n a) (node_access v d) at k.1 lt (before_to v n p)
        later (inr le) ge =
            let e : k.0 ≡ j = omega (arith, le, ge) in
            let same : v ≡ n = ap (λ o. option_map_or (λ t. t.node) o 0) (sym k.1 ∙ ap (λ i. slice_get (node_accesses_of V order) i) e ∙ at) in
            never (sym same)

        go : (k.0 < j) ⊎ (j ≤ k.0) → (k : ℕ) × (k < j) × NodeAccessAt (node_accesses_of V order) k (node_access v d)
        go (inl lt) = (k.0, lt, k.1)
        go (inr ge) = absurd (later (cases_lt j k.0) ge)

    -- the access at place i, of another node, is the last that passes, and everything that passes clashes with it
    module _ (test : NodeAccess → Bool) (i : ℕ) (c : NodeAccess) (L : Latest test (node_accesses_of V order) j i c) where
      abbrev w : ℕ
      w = c.node

      has : Has V c.node c.access
      has = (listed_of V order i c L.at).1

      pub last_before : (v : ℕ) (d : Access) → Has V v d → Before V v n → test (node_access v d) ≡ true → clash V d c.access ≡ true → (v ≡ c.node) ⊎ Before V v c.node
      last_before v d hd p t clashes = go (cases_lt i k.0) (cases_lt k.0 i)
        where
          k : (k : ℕ) × (k < j) × NodeAccessAt (node_accesses_of V order) k (node_access v d)
          k = placed v d hd p

          go : (i < k.0) ⊎ (k.0 ≤ i) → (k.0 < i) ⊎ (i ≤ k.0) → (v ≡ c.node) ⊎ Before V v c.node
          go (inl lt) r = absurd (L.last k.0 (node_access v d) lt k.1 k.2 t)
          go (inr le) (inl lt) = synchronized_forward v c.node d c.access hd has clashes (not_earlier V order O.once k.0 i (node_access v d) c k.2 L.at lt)
          go (inr le) (inr ge) =
              let e : k.0 ≡ i = omega (arith, le, ge) in
              inl (ap (λ o. option_map_or (λ t. t.node) o 0) (sym k.2 ∙ ap (λ x. slice_get (node_accesses_of V order) x) e ∙ L.at))

      pub before_here : clash V c.access a ≡ true → (Precedes V c.node c.access a → ⊥) → Has V n a → Before V c.node n
      before_here clashes other ha = ⊎_elim
          (λ (e : c.node ≡ n). absurd (other ((listed V order F.shaped O).in_order i j c (node_access n a) L.at at L.below e)))
          (λ p. p)
          (synchronized_forward c.node n c.access a has ha clashes (not_earlier V order O.once i j c (node_access n a) L.at at L.below))

  -- a change comes before no load of the same node
  no_change : (c : NodeAccess) (n : ℕ) (a : Access) → changes c.access.kind ≡ true → transfers a.kind ≡ false → Precedes V c.node c.access a → ⊥
  no_change c n a ch keeps t = false≢true (sym keeps ∙ F.shaped.last c.node t.0 t.1 c.access a t.3 t.4 t.2 ch)

  -- LOADS

  initialized_by : Initialized V (node_accesses_of V order) → (n : ℕ) (a : Access) → Has V n a → loads a.kind ≡ true → InitializedBy V n a.piece
  initialized_by X n a ha al = go (last_change V (node_accesses_of V order) j.0 a.piece) refl (X j.0 (node_access n a) j.1 al)
    where
      j : (j : ℕ) × NodeAccessAt (node_accesses_of V order) j (node_access n a)
      j = listed_in V order n a (O.all n (has_within V n a F.shaped ha)) ha

      go : (o : Option NodeAccess) → last_change V (node_accesses_of V order) j.0 a.piece ≡ o → initialized_specs.Initializes V a.piece o → InitializedBy V n a.piece
      go None e imported = inr (record { none = λ v d hd c over p. let k = placed n a j.0 j.1 v d hd p in latest_none (changes_bytes V a.piece) (node_accesses_of V order) j.0 e k.0 (node_access v d) k.1 k.2 (and_from (overlap V d.piece a.piece) (changes d.kind) over c); imported = imported })
      go (Some c) e initializes =
          let L = latest (changes_bytes V a.piece) (node_accesses_of V order) j.0 c e in
          let q = and_parts (overlap V c.access.piece a.piece) (changes c.access.kind) L.1.passes in
          inl (
            c.node,
            c.access,
            record {
              has = (listed_of V order L.0 c L.1.at).1;
              leaves = initializes.1;
              piece = initializes.0;
              before = before_here n a j.0 j.1 (changes_bytes V a.piece) L.0 c L.1 (clash_change V c.access a q.1 q.0) (no_change c n a q.1 (load_keeps a.kind al)) ha;
              last = λ v d hd ch over p. last_before n a j.0 j.1 (changes_bytes V a.piece) L.0 c L.1 v d hd p (and_from (overlap V d.piece a.piece) (changes d.kind) over ch) (clash_change V d c.access ch (subst (λ z. overlap V d.piece z ≡ true) (sym initializes.0) over));
            },
          )

  -- LAYOUTS AND OWNERS

  module _ (sort : AccessKind → Bool) (so : Sorted V sort) (n : ℕ) (a : Access) (ha : Has V n a) (j : ℕ) (at : NodeAccessAt (node_accesses_of V order) j (node_access n a)) where
    some_bytes : (v : ℕ) (d : Access) → Has V v d → 0 < bytes_of (piece_at V d.piece).shape
    some_bytes v d hd = F.shaped.some d.piece (F.shaped.known v hd.0 d hd.1)

    sort_last : (c : NodeAccess) → last_on sort a.piece (take j (node_accesses_of V order)) ≡ Some c → (Precedes V c.node c.access a → sort c.access.kind ≡ true → ⊥) → LastOf V sort n a.piece c.node c.access
    sort_last c e other =
        let L = latest (on_piece a.piece sort) (node_accesses_of V order) j c e in
        let q = and_parts (c.access.piece == a.piece) (sort c.access.kind) L.1.passes in
        let same : c.access.piece ≡ a.piece = eqb-true c.access.piece a.piece q.0 in
        let hc = (listed_of V order L.0 c L.1.at).1 in
        record {
          has = hc;
          sorted = q.1;
          piece = same;
          before = before_here n a j at (on_piece a.piece sort) L.0 c L.1 (so c.access a q.1 same (some_bytes n a ha)) (λ t. other t q.1) ha;
          last = λ v d hd k p b. last_before n a j at (on_piece a.piece sort) L.0 c L.1 v d hd b (and_from (d.piece == a.piece) (sort d.kind) (eq-eqb d.piece a.piece p) k) (so d c.access k (p ∙ sym same) (some_bytes c.node c.access hc));
        }

    sort_none : last_on sort a.piece (take j (node_accesses_of V order)) ≡ None → NoneOf V sort n a.piece
    sort_none e v d hd k p b = let t = placed n a j at v d hd b in latest_none (on_piece a.piece sort) (node_accesses_of V order) j e t.0 (node_access v d) t.1 t.2 (and_from (d.piece == a.piece) (sort d.kind) (eq-eqb d.piece a.piece p) k)

  layout_by : StateValid V (node_accesses_of V order) → (n : ℕ) (a : Access) (layout : Layout) → Has V n a → wanted a.kind ≡ Some layout → LayoutBy V n a.piece layout
  layout_by X n a layout ha want = go (last_on sets_layout a.piece (take j.0 (node_accesses_of V order))) refl ((X j.0 (node_access n a) j.1).layout layout want)
    where
      j : (j : ℕ) × NodeAccessAt (node_accesses_of V order) j (node_access n a)
      j = listed_in V order n a (O.all n (has_within V n a F.shaped ha)) ha

      go : (o : Option NodeAccess) → last_on sets_layout a.piece (take j.0 (node_accesses_of V order)) ≡ o → option_map_or (λ c. layout_after c.access.kind) o layouts.Undefined ≡ layout → LayoutBy V n a.piece layout
      go None e is = inr (sort_none sets_layout (layouts_sorted V) n a ha j.0 j.1 e, sym is)
      go (Some c) e is = inl (c.node, c.access, sort_last sets_layout (layouts_sorted V) n a ha j.0 j.1 c e (λ t k. no_change c n a (layout_changes c.access.kind k) (wanting_keeps a.kind layout want) t), is)

  owner_by : StateValid V (node_accesses_of V order) → (n : ℕ) (a : Access) → Has V n a → needs_owner V (node_access n a) ≡ true → OwnerBy V (first_owner V (node_accesses_of V order)) n a.piece (family_at V n)
  owner_by X n a ha needs = go (last_on sets_owner a.piece (take j.0 (node_accesses_of V order))) refl ((X j.0 (node_access n a) j.1).owner needs)
    where
      j : (j : ℕ) × NodeAccessAt (node_accesses_of V order) j (node_access n a)
      j = listed_in V order n a (O.all n (has_within V n a F.shaped ha)) ha

      go : (o : Option NodeAccess) → last_on sets_owner a.piece (take j.0 (node_accesses_of V order)) ≡ o → option_map_or (λ c. owner_after c.access.kind (family_at V c.node)) o (first_owner V (node_accesses_of V order) a.piece) ≡ family_at V n → OwnerBy V (first_owner V (node_accesses_of V order)) n a.piece (family_at V n)
      go None e is = inr (sort_none sets_owner (owners_sorted V) n a ha j.0 j.1 e, is)
      go (Some c) e is = inl (c.node, c.access, sort_last sets_owner (owners_sorted V) n a ha j.0 j.1 c e (λ t k. let le = after_owner V F c.node t.0 t.1 c.access a t.3 t.4 k in omega (arith, le, t.2)), is)

  pub finds : StateValid V (node_accesses_of V order) → Initialized V (node_accesses_of V order) → Finds V (first_owner V (node_accesses_of V order))
  finds X Y = record { initialized = initialized_by Y; layout = layout_by X; owner = owner_by X }
