-- What is last by what happens before what is last among the accesses of every order.
use Rattle.std.proofs.Common.{◌≡◌, ◌⊎◌, inl, inr, ℕ, zero, suc, ◌<◌, ◌≤◌, Bool, true, false, if◌then◌else◌, List, [], ◌∷◌, take, Some, None, refl, sym, ap, ◌∙◌, subst, ⊎_elim, arith}
use Rattle.std.specs.Option.{option_or}
use Rattle.std.specs.Prelude.{slice_get, unwrap_or}
use Rattle.std.proofs.lemmas.Bool.{cases_Bool, cases_eq, cases_lt, false≢true}
use Rattle.law_plan.proofs.Lasts.{LastOf, NoneOf}
use Rattle.law_plan.proofs.Listings.{has_within, listed_in, in_turn}
use Rattle.check_order.specs.Laws.{IsAsymmetric, IsIrreflexive}
use Rattle.check_order.specs.Orders.{Earlier, Order}
use Rattle.check_state.specs.PieceStates.{last_that}
use Rattle.check_sync.proofs.Ordered.{listed_of}
use Rattle.check_sync.proofs.Through.{change_plain}
use Rattle.law_nodes.specs.Passing.{Before}
use Rattle.law_nodes.specs.Synchronized.{Synchronized}
use Rattle.check_access.specs.AccessKinds.{changes, sets_owner, transfers}
use Rattle.check_access.specs.ValidView.{Has, NodeAccessAt, Precedes, ValidView}
use Rattle.check_access.specs.Views.{View, clash, node_access, node_accesses_of}
use Rattle.check_access.specs.declared.access.Access.{Access}
use Rattle.check_access.specs.declared.node_access.NodeAccess.{NodeAccess}

-- LISTS

pub one_at : (accesses : List NodeAccess) (i j : ℕ) (a b : NodeAccess) → NodeAccessAt accesses i a → NodeAccessAt accesses j b → i ≡ j → a ≡ b
one_at accesses i j a b ha hb e = ap (λ o. unwrap_or o a) (sym ha ∙ ap (λ z. slice_get accesses z) e ∙ hb)

last_none : (test : NodeAccess → Bool) (accesses : List NodeAccess) (j : ℕ) → ((k : ℕ) (c : NodeAccess) → k < j → NodeAccessAt accesses k c → test c ≡ false) → last_that test (take j accesses) ≡ None
last_none test [] zero h = refl
last_none test [] (suc j) h = refl
last_none test (x ∷ accesses) zero h = refl
last_none test (x ∷ accesses) (suc j) h =
    ap (λ o. option_or o (if test x then Some x else None)) (last_none test accesses j (λ k c lt e. h (suc k) c (omega (arith, lt)) e))
    ∙ ap (λ b. if b then Some x else None) (h 0 x (omega arith) refl)

last_is : (test : NodeAccess → Bool) (accesses : List NodeAccess) (j i : ℕ) (a : NodeAccess) → i < j → NodeAccessAt accesses i a → test a ≡ true → ((k : ℕ) (c : NodeAccess) → i < k → k < j → NodeAccessAt accesses k c → test c ≡ false) → last_that test (take j accesses) ≡ Some a
last_is test [] j i a lt e t h = absurd cc
last_is test (x ∷ accesses) zero i a lt e t h = absurd (omega (arith, lt))
last_is test (x ∷ accesses) (suc j) zero a lt e t h =
    ap (λ o. option_or o (if test x then Some x else None)) (last_none test accesses j (λ k c l f. h (suc k) c (omega arith) (omega (arith, l)) f))
    ∙ ap (λ z. if test z then Some z else None) (ap (λ o. unwrap_or o x) e)
    ∙ ap (λ b. if b then Some a else None) t
last_is test (x ∷ accesses) (suc j) (suc i) a lt e t h = ap (λ o. option_or o (if test x then Some x else None)) (last_is test accesses j i a (omega (arith, lt)) e t (λ k c l m f. h (suc k) c (omega (arith, l)) (omega (arith, m)) f))

-- ORDERS

-- a sort of accesses of which access a of node n may find the last: all clash with it, no node does two of them, and n does none before it
pub record Finds (V : View) (test : NodeAccess → Bool) (n : ℕ) (a : Access) : Type 0 where
  pub clashes : (v : ℕ) (c : Access) → Has V v c → test (node_access v c) ≡ true → clash V c a ≡ true
  pub own : (c : Access) → Precedes V n c a → test (node_access n c) ≡ true → ⊥
  pub single : (v : ℕ) (c d : Access) → Precedes V v c d → test (node_access v c) ≡ true → test (node_access v d) ≡ true → ⊥

-- a change is the last thing that a node does but its half of a transfer
pub finds_change : (V : View) → ValidView V → (test : NodeAccess → Bool) → ((v : ℕ) (c : Access) → test (node_access v c) ≡ true → changes c.kind ≡ true) → (n : ℕ) (a : Access) → transfers a.kind ≡ false → ((v : ℕ) (c : Access) → test (node_access v c) ≡ true → clash V c a ≡ true) → Finds V test n a
finds_change V S test is n a keeps clashes = record {
  clashes = λ v c h t. clashes v c t;
  own = λ c p t. false≢true (sym keeps ∙ after n c a p (is n c t));
  single = λ v c d p t u. false≢true (sym (change_plain d.kind (is v d u)) ∙ after v c d p (is v c t));
}
  where
    after : (v : ℕ) (c d : Access) → Precedes V v c d → changes c.kind ≡ true → transfers d.kind ≡ true
    after v c d p k = S.last v p.0 p.1 c d p.3 p.4 p.2 k

-- and what decides the owner is the last thing
pub finds_owner : (V : View) → ValidView V → (test : NodeAccess → Bool) → ((v : ℕ) (c : Access) → test (node_access v c) ≡ true → sets_owner c.kind ≡ true) → (n : ℕ) (a : Access) → ((v : ℕ) (c : Access) → test (node_access v c) ≡ true → clash V c a ≡ true) → Finds V test n a
finds_owner V S test is n a clashes = record {
  clashes = λ v c h t. clashes v c t;
  own = λ c p t. never n c a p (is n c t);
  single = λ v c d p t u. never v c d p (is v c t);
}
  where
    never : (v : ℕ) (c d : Access) → Precedes V v c d → sets_owner c.kind ≡ true → ⊥
    never v c d p k = false≢true (sym (S.final v p.0 p.1 c d p.3 p.4 p.2) ∙ k)

module _ (V : View) (S : ValidView V) (T : Synchronized V) (order : List ℕ) (O : Order V.nodes order) (I : IsIrreflexive V.nodes) (N : IsAsymmetric V.nodes) where
  -- of two listed accesses that of the later node does not come first
  pub not_later : (i j : ℕ) (a b : NodeAccess) → NodeAccessAt (node_accesses_of V order) i a → NodeAccessAt (node_accesses_of V order) j b → i < j → Before V b.node a.node → ⊥
  not_later i j a b ha hb lt p = go (in_turn V order O.once i j a b ha hb lt)
    where
      go : ((a.node ≡ b.node) × Precedes V a.node a.access b.access) ⊎ ((a.node ≡ b.node → ⊥) × Earlier order a.node b.node) → ⊥
      go (inl t) = I order O b.node (subst (λ z. Before V b.node z) t.0 p)
      go (inr t) = N order O b.node a.node p t.1

  -- so what happens before another stands before it
  pub stands_before : (i j : ℕ) (a b : NodeAccess) → NodeAccessAt (node_accesses_of V order) i a → NodeAccessAt (node_accesses_of V order) j b → Before V a.node b.node → i < j
  stands_before i j a b ha hb p = go (cases_lt i j) (cases_eq i j)
    where
      go : (i < j) ⊎ (j ≤ i) → (i ≡ j) ⊎ (i ≡ j → ⊥) → i < j
      go (inl lt) c = lt
      go (inr le) (inl e) = absurd (I order O b.node (subst (λ z. Before V z b.node) (ap (λ z. z.node) (one_at (node_accesses_of V order) i j a b ha hb e)) p))
      go (inr le) (inr ne) = absurd (not_later j i b a hb ha (omega (arith, le, ne)) p)

  -- an access that clashes with a later one is of the same node, or happens before it
  pub listed_before : (i j : ℕ) (a b : NodeAccess) → NodeAccessAt (node_accesses_of V order) i a → NodeAccessAt (node_accesses_of V order) j b → i < j → clash V a.access b.access ≡ true → ((a.node ≡ b.node) × Precedes V a.node a.access b.access) ⊎ Before V a.node b.node
  listed_before i j a b ha hb lt c = ⊎_elim (λ t. inl t) (λ t. inr (go (T.ordered a.node b.node a.access b.access (listed_of V order i a ha).1 (listed_of V order j b hb).1 (record { apart = t.0; clash = c })))) (in_turn V order O.once i j a b ha hb lt)
    where
      go : Before V a.node b.node ⊎ Before V b.node a.node → Before V a.node b.node
      go (inl p) = p
      go (inr p) = absurd (not_later i j a b ha hb lt p)

  -- access b stands at place j, and may find the last one that is so
  module _ (test : NodeAccess → Bool) (j : ℕ) (b : NodeAccess) (hb : NodeAccessAt (node_accesses_of V order) j b) (A : Finds V test b.node b.access) where
    so_before : (k : ℕ) (c : NodeAccess) → k < j → NodeAccessAt (node_accesses_of V order) k c → test c ≡ true → Before V c.node b.node
    so_before k c lt hc t = ⊎_elim
        (λ z. absurd (A.own c.access (subst (λ n. Precedes V n c.access b.access) z.0 z.1) (subst (λ n. test (node_access n c.access) ≡ true) z.0 t)))
        (λ p. p)
        (listed_before k j c b hc hb lt (A.clashes c.node c.access (listed_of V order k c hc).1 t))

    pub none_listed : NoneOf V test b.node → last_that test (take j (node_accesses_of V order)) ≡ None
    none_listed none = last_none test (node_accesses_of V order) j (λ k c lt hc. ⊎_elim (λ t. absurd (none c.node c.access (listed_of V order k c hc).1 t (so_before k c lt hc t))) (λ f. f) (cases_Bool (test c)))

    pub last_listed : (t : ℕ) (d : Access) → LastOf V test b.node t d → last_that test (take j (node_accesses_of V order)) ≡ Some (node_access t d)
    last_listed t d L = place (listed_in V order t d (O.all t (has_within V S t d L.has)) L.has)
      where
        after : (i : ℕ) → NodeAccessAt (node_accesses_of V order) i (node_access t d) → (k : ℕ) (c : NodeAccess) → i < k → k < j → NodeAccessAt (node_accesses_of V order) k c → test c ≡ true → ⊥
        after i hi k c l m hc tc = ⊎_elim same before (L.last c.node c.access (listed_of V order k c hc).1 tc (so_before k c m hc tc))
          where
            before : Before V c.node t → ⊥
            before p = not_later i k (node_access t d) c hi hc l p

            same : c.node ≡ t → ⊥
            same e = ⊎_elim
                (λ z. A.single t d c.access z.1 L.is (subst (λ n. test (node_access n c.access) ≡ true) e tc))
                (λ z. z.0 (sym e))
                (in_turn V order O.once i k (node_access t d) c hi hc l)

        place : (i : ℕ) × NodeAccessAt (node_accesses_of V order) i (node_access t d) → last_that test (take j (node_accesses_of V order)) ≡ Some (node_access t d)
        place (i, hi) = last_is test (node_accesses_of V order) j i (node_access t d) (stands_before i j (node_access t d) b hi hb L.before) hi L.is (λ k c l m hc. ⊎_elim (λ h. absurd (after i hi k c l m hc h)) (λ f. f) (cases_Bool (test c)))
