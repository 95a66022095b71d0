-- Each load finds bytes that were stored through its piece, or an import's.
use Rattle.std.proofs.Common.{◌≡◌, ◌⊎◌, inl, inr, ℕ, ◌<◌, ◌≤◌, true, false, List, refl, sym, ◌∙◌, subst, arith}
use Rattle.std.proofs.lemmas.Bool.{cases_Bool, cases_eq, cases_lt, and_from, and_parts, false≢true}
use Rattle.law_plan.proofs.Clashes.{change_clash, itself}
use Rattle.law_plan.proofs.KindTables.{change_stores, discard_entry}
use Rattle.law_plan.proofs.Knit.{Acyclic, synchronizes_chain}
use Rattle.law_plan.proofs.Lasts.{LastOf, NoneOf, LastAt, NoneAt, SortAt, last_or_none, sort_at}
use Rattle.law_plan.proofs.Listed.{Finds, finds_change, last_listed, none_listed}
use Rattle.law_plan.proofs.Ranks.{rank, phase, At, at_has, at_low, at_of, at_piece, rank_before, rank_same, before_rank}
use Rattle.law_plan.proofs.Runs.{beside_path}
use Rattle.law_plan.proofs.Sorts.{changes_sorted}
use Rattle.law_plan.proofs.Synchronizing.{local_knit}
use Rattle.law_plan.specs.Aliases.{Beside}
use Rattle.law_plan.specs.Crossings.{IsFull}
use Rattle.law_plan.specs.Local.{Local}
use Rattle.law_plan.specs.Nodes.{Nodes}
use Rattle.law_plan.specs.Plans.{Plan, leads}
use Rattle.law_plan.specs.Spots.{Spot, at_prologue, at_member, at_release, at_reader, OfPrologue}
use Rattle.law_plan.specs.States.{Laid, Changed}
use Rattle.check_order.specs.Laws.{IsAsymmetric, IsIrreflexive}
use Rattle.check_order.specs.Orders.{Order}
use Rattle.base_reach.specs.Paths.{then_on}
use Rattle.check_state.specs.Initialized.{Initializes, InitializedAt}
use Rattle.check_state.specs.PieceStates.{changes_bytes, last_change}
use Rattle.check_sync.proofs.Ordered.{listed_of}
use Rattle.law_nodes.specs.Passing.{Before}
use Rattle.law_nodes.specs.Synchronized.{Synchronized}
use Rattle.check_access.proofs.KindFacts.{load_keeps}
use Rattle.check_access.specs.AccessKinds.{changes, is_discard, loads, stores}
use Rattle.check_access.specs.ValidView.{Has, NodeAccessAt, ValidView}
use Rattle.check_access.specs.Views.{View, imported_at, node_access, node_accesses_of, overlap}
use Rattle.check_access.specs.declared.access.Access.{Access}
use Rattle.check_access.specs.declared.node_access.NodeAccess.{NodeAccess}

changed : (V : View) (p v : ℕ) (c : Access) → changes_bytes V p (node_access v c) ≡ true → (overlap V c.piece p ≡ true) × (changes c.kind ≡ true)
changed V p v c h = and_parts (overlap V c.piece p) (changes c.kind) h

-- a discard is a prologue's
discard_spot : (F : Plan) (V : View) (N : Nodes) (x g : ℕ) (a : Access) (s : Spot F V N x a g) → is_discard a.kind ≡ true → (phase F V N x a g s ≡ 0) × OfPrologue F V N g a
discard_spot F V N x g a (at_prologue e t) so = (refl, t)
discard_spot F V N x g a (at_member e m) so = absurd (false≢true (sym (discard_entry a.kind so).0 ∙ m.plain))
discard_spot F V N x g a (at_reader e r) so = absurd (false≢true (sym (discard_entry a.kind so).0 ∙ r.plain))
discard_spot F V N x g a (at_release e r) so = absurd (false≢true (sym (discard_entry a.kind so).1 ∙ r.release))

module _ (F : Plan) (V : View) (N : Nodes) (D : IsFull V) (X : Local F V N) (S : ValidView V) (L : Laid F V N) (Y : Changed F V N) (C : Acyclic V) where
  -- access a of node n stands at rank q
  module _ (n q : ℕ) (a : Access) (B : At F V N n a q) where
    ha : Has V n a
    ha = at_has F V N n a q B

    -- a change of another piece that overlaps, before n, is before each change of n's piece
    apart_before : (v t i r : ℕ) (c d : Access) → At F V N v c i → At F V N t d r → d.piece ≡ a.piece → (c.piece ≡ a.piece → ⊥) → overlap V c.piece a.piece ≡ true → Before V v n → Before V v t
    apart_before v t i r c d W E e ne o p = go (X.aliases.ordered W.group E.group (X.spots.within v c W.group W.spot) (X.spots.within t d E.group E.spot) (λ w. ne (pv ∙ w ∙ sym pt)) (subst (λ z. overlap V z (F.piece E.group) ≡ true) pv (subst (λ z. overlap V c.piece z ≡ true) pt o)))
      where
        pv : c.piece ≡ F.piece W.group
        pv = at_piece F V N v c i W

        pt : a.piece ≡ F.piece E.group
        pt = sym e ∙ at_piece F V N t d r E

        pn : F.piece E.group ≡ F.piece B.group
        pn = sym pt ∙ at_piece F V N n a q B

        go : Beside F W.group E.group ⊎ Beside F E.group W.group → Before V v t
        go (inl Z) = (synchronizes_chain V (leads F) N.prologue (Spot F V N) (local_knit F V N D X) v t c d W.group E.group W.spot E.spot (beside_path F X.grouped W.group E.group Z)).before
        go (inr Z) = absurd (C n (then_on (synchronizes_chain V (leads F) N.prologue (Spot F V N) (local_knit F V N D X) n v a c B.group W.group B.spot W.spot (beside_path F X.grouped B.group W.group (record { last = Z.last; first = Z.first; same_last = Z.same_last ∙ pn; same_first = Z.same_first; over = Z.over }))).before p))

    -- the last change through the piece is the last one of its bytes
    last_change_of : (t r : ℕ) (d : Access) → LastAt F V N changes a.piece q t d r → LastOf V (changes_bytes V a.piece) n t d
    last_change_of t r d E = record {
      has = at_has F V N t d r E.is.at;
      is = and_from (overlap V d.piece a.piece) (changes d.kind) (subst (λ u. overlap V u a.piece ≡ true) (sym E.is.piece) (itself V S n a ha)) E.is.sorted;
      before = rank_before F V N D X t n d a r q E.is.piece E.is.at B E.below;
      last = λ v c h k p. let u = changed V a.piece v c k in let W = at_of F V N D X v c h in go v c u.1 u.0 p W.0 W.1 (cases_eq c.piece a.piece);
    }
      where
        go : (v : ℕ) (c : Access) → changes c.kind ≡ true → overlap V c.piece a.piece ≡ true → Before V v n → (i : ℕ) → At F V N v c i → (c.piece ≡ a.piece) ⊎ (c.piece ≡ a.piece → ⊥) → (v ≡ t) ⊎ Before V v t
        go v c k o p i W (inr ne) = inr (apart_before v t i r c d W E.is.at E.is.piece ne o p)
        go v c k o p i W (inl f) = pick (cases_lt i r) (cases_eq i r)
          where
            pick : (i < r) ⊎ (r ≤ i) → (i ≡ r) ⊎ (i ≡ r → ⊥) → (v ≡ t) ⊎ Before V v t
            pick (inl lt) e = inr (rank_before F V N D X v t c d i r (f ∙ sym E.is.piece) W E.is.at lt)
            pick (inr le) (inl e) = inl (rank_same F V N D X v t c d i r (change_clash V c d (subst (λ z. overlap V c.piece z ≡ true) (sym E.is.piece) o) k) W E.is.at e)
            pick (inr le) (inr ne) = absurd (E.none v i c (record { at = W; sorted = k; piece = f }) (omega (arith, le, ne)) (before_rank F V N D X C v n c a i q f (change_clash V c a o k) W B p))

    -- of an import nothing changed bytes
    none_change_of : imported_at V a.piece ≡ true → NoneAt F V N changes a.piece q → NoneOf V (changes_bytes V a.piece) n
    none_change_of imported none v c h k p =
        let u = changed V a.piece v c k in
        let W = at_of F V N D X v c h in
        let f = Y.alone v a.piece c h imported u.0 in
        none v W.0 c (record { at = W.1; sorted = u.1; piece = f }) (before_rank F V N D X C v n c a W.0 q f (change_clash V c a u.0 u.1) W.1 B p)

    -- what is of no import was stored by an earlier group
    stored : loads a.kind ≡ true → imported_at V a.piece ≡ false → (i : ℕ) × (F.piece i ≡ a.piece) × (rank i 1 < q) × ((x : ℕ) × (b : Access) × SortAt F V N changes a.piece x b (rank i 1))
    stored tk fresh = go (Y.start n B.group a B.spot tk fresh)
      where
        go : (i : ℕ) × (F.piece i ≡ F.piece B.group) × (i < B.group) × (Y.stores i ≡ true) → (i : ℕ) × (F.piece i ≡ a.piece) × (rank i 1 < q) × ((x : ℕ) × (b : Access) × SortAt F V N changes a.piece x b (rank i 1))
        go (i, pi, lt, st) =
            let t = Y.there i st in
            let low = (at_low F V N n a q B).0 in
            let same : F.piece i ≡ a.piece = pi ∙ sym (at_piece F V N n a q B) in
            (i, same, omega (arith, low, lt), sort_at F V N changes a.piece i 1 same (N.command t.0, t.1, at_member refl t.2, refl, t.3))

    -- the last change is no discard
    not_discard : (t r : ℕ) (d : Access) → LastAt F V N changes a.piece q t d r → loads a.kind ≡ true → is_discard d.kind ≡ true → ⊥
    not_discard t r d E tk so = go (cases_Bool (imported_at V a.piece))
      where
        prologue : (phase F V N t d E.is.at.group E.is.at.spot ≡ 0) × OfPrologue F V N E.is.at.group d
        prologue = discard_spot F V N t E.is.at.group d E.is.at.spot so

        here : r ≡ rank E.is.at.group 0
        here = let is = E.is.at.is in let w = prologue.0 in omega (arith, is, w)

        hit : (i : ℕ) × (F.piece i ≡ a.piece) × (rank i 1 < q) × ((x : ℕ) × (b : Access) × SortAt F V N changes a.piece x b (rank i 1)) → ⊥
        hit (i, pi, lt, (x, b, W)) =
            let low = (Y.discards E.is.at.group d prologue.1 so).least i (pi ∙ sym E.is.piece ∙ prologue.1.piece) in
            E.none x (rank i 1) b W (omega (arith, here, low)) lt

        go : (imported_at V a.piece ≡ true) ⊎ (imported_at V a.piece ≡ false) → ⊥
        go (inl im) = false≢true (sym (Y.undiscarded t d (at_has F V N t d r E.is.at) so) ∙ subst (λ u. imported_at V u ≡ true) (sym E.is.piece) im)
        go (inr fresh) = hit (stored tk fresh)

    none_imported : loads a.kind ≡ true → NoneAt F V N changes a.piece q → imported_at V a.piece ≡ true
    none_imported tk none = go (cases_Bool (imported_at V a.piece))
      where
        hit : (i : ℕ) × (F.piece i ≡ a.piece) × (rank i 1 < q) × ((x : ℕ) × (b : Access) × SortAt F V N changes a.piece x b (rank i 1)) → ⊥
        hit (i, pi, lt, (x, b, W)) = none x (rank i 1) b W lt

        go : (imported_at V a.piece ≡ true) ⊎ (imported_at V a.piece ≡ false) → imported_at V a.piece ≡ true
        go (inl im) = im
        go (inr fresh) = absurd (hit (stored tk fresh))

  -- what a load finds
  data InitializedBy (n : ℕ) (a : Access) : Type 0 where
    by_change : {t : ℕ} {d : Access} → LastOf V (changes_bytes V a.piece) n t d → d.piece ≡ a.piece → stores d.kind ≡ true → InitializedBy n a
    by_import : NoneOf V (changes_bytes V a.piece) n → imported_at V a.piece ≡ true → InitializedBy n a

  initialized_by : (n : ℕ) (a : Access) → Has V n a → loads a.kind ≡ true → InitializedBy n a
  initialized_by n a ha tk = at (at_of F V N D X n a ha)
    where
      at : (q : ℕ) × At F V N n a q → InitializedBy n a
      at (q, B) = go (last_or_none F V N changes a.piece (changes_sorted F V N S X L Y) q)
        where
          go : ((t : ℕ) × (d : Access) × (r : ℕ) × LastAt F V N changes a.piece q t d r) ⊎ NoneAt F V N changes a.piece q → InitializedBy n a
          go (inl (t, d, r, E)) = by_change {t = t} {d = d} (last_change_of n q a B t r d E) E.is.piece (change_stores d.kind E.is.sorted (not_discard n q a B t r d E tk))
          go (inr none) = let im = none_imported n q a B tk none in by_import (none_change_of n q a B im none) im

  -- in every order each load finds bytes
  pub initialized_at : (order : List ℕ) (O : Order V.nodes order) → IsIrreflexive V.nodes → IsAsymmetric V.nodes → Synchronized V → (j : ℕ) (b : NodeAccess) → NodeAccessAt (node_accesses_of V order) j b → InitializedAt V (node_accesses_of V order) j b
  initialized_at order O I A T j b hb tk = go (initialized_by b.node b.access (listed_of V order j b hb).1 tk)
    where
      finds : Finds V (changes_bytes V b.access.piece) b.node b.access
      finds = finds_change V S (changes_bytes V b.access.piece) (λ v c h. (changed V b.access.piece v c h).1) b.node b.access (load_keeps b.access.kind tk)
          (λ v c h. let u = changed V b.access.piece v c h in change_clash V c b.access u.0 u.1)

      go : InitializedBy b.node b.access → Initializes V b.access.piece (last_change V (node_accesses_of V order) j b.access.piece)
      go (by_change {t = t} {d = d} E p s) = subst (Initializes V b.access.piece) (sym (last_listed V S T order O I A (changes_bytes V b.access.piece) j b hb finds t d E)) (p, s)
      go (by_import none im) = subst (Initializes V b.access.piece) (sym (none_listed V S T order O I A (changes_bytes V b.access.piece) j b hb finds none)) im
