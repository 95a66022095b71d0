-- The accesses that an order lists.
use Rattle.std.proofs.Common.{◌≡◌, ◌⊎◌, inl, inr, ℕ, zero, suc, ◌+◌, ◌<◌, ◌++◌, if◌then◌else◌, List, [], ◌∷◌, length, map, slice_get, Some, None, sym, ap, ◌∙◌, subst, ⊎_elim, ne_eqb, arith}
use Rattle.std.specs.Option.{option_map}
use Rattle.std.proofs.lemmas.Bool.{cases_lt}
use Rattle.std.proofs.lemmas.List.{get_or_past}
use Rattle.std.proofs.lemmas.Option.{slice_get-map, slice_get_within}
use Rattle.check_order.specs.Orders.{Among, before_in, Distinct, Earlier}
use Rattle.check_sync.proofs.Ordered.{listed_of}
use Rattle.check_access.proofs.Listing.{made_of}
use Rattle.check_access.specs.Effects.{no_effect}
use Rattle.check_access.specs.ValidView.{Has, NodeAccessAt, Precedes, ValidView}
use Rattle.check_access.specs.Views.{View, accesses_of, node_access, node_accesses_of}
use Rattle.check_access.specs.declared.access.Access.{Access}
use Rattle.check_access.specs.declared.node_access.NodeAccess.{NodeAccess}

-- ONE LIST AFTER ANOTHER

in_one_part : (xs ys : List NodeAccess) (i : ℕ) (a : NodeAccess) → NodeAccessAt (xs ++ ys) i a → NodeAccessAt xs i a ⊎ ((k : ℕ) × (i ≡ length xs + k) × NodeAccessAt ys k a)
in_one_part [] ys i a e = inr (i, omega arith, e)
in_one_part (x ∷ xs) ys zero a e = inl e
in_one_part (x ∷ xs) ys (suc i) a e = ⊎_elim (λ f. inl f) (λ f. let later : i ≡ length xs + f.0 = f.1 in inr (f.0, omega (arith, later), f.2)) (in_one_part xs ys i a e)

in_first : (xs ys : List NodeAccess) (i : ℕ) (a : NodeAccess) → NodeAccessAt xs i a → NodeAccessAt (xs ++ ys) i a
in_first [] ys i a e = absurd cc
in_first (x ∷ xs) ys zero a e = e
in_first (x ∷ xs) ys (suc i) a e = in_first xs ys i a e

in_second : (xs ys : List NodeAccess) (i : ℕ) (a : NodeAccess) → NodeAccessAt ys i a → (k : ℕ) × NodeAccessAt (xs ++ ys) k a
in_second [] ys i a e = (i, e)
in_second (x ∷ xs) ys i a e = let t = in_second xs ys i a e in (suc t.0, t.1)

-- THE ACCESSES OF ONE NODE

of_node : (V : View) (n i : ℕ) (a : NodeAccess) → NodeAccessAt (map (node_access n) (accesses_of V n)) i a → (a.node ≡ n) × (slice_get (accesses_of V n) i ≡ Some a.access)
of_node V n i a e = made_of n (slice_get (accesses_of V n) i) a (sym (slice_get-map (node_access n) (accesses_of V n) i) ∙ e)

-- what has accesses is a node
pub has_within : (V : View) → ValidView V → (n : ℕ) (a : Access) → Has V n a → n < length V.nodes
has_within V S n a (i, h) = ⊎_elim
    (λ lt. subst (λ m. n < m) S.effects lt)
    (λ past. absurd (none (subst (λ u. slice_get u.accesses i ≡ Some a) (get_or_past V.effects n no_effect past) h)))
    (cases_lt n (length V.effects))
  where
    none : None ≡ Some a → ⊥
    none e = cc

-- IN AN ORDER

-- each access of a node of the order is listed
pub listed_in : (V : View) (order : List ℕ) (n : ℕ) (a : Access) → Among n order → Has V n a → (i : ℕ) × NodeAccessAt (node_accesses_of V order) i (node_access n a)
listed_in V [] n a m h = absurd m
listed_in V (u ∷ order) n a (inl e) (i, h) = (i, in_first (map (node_access u) (accesses_of V u)) (node_accesses_of V order) i (node_access n a) (subst (λ z. NodeAccessAt (map (node_access z) (accesses_of V z)) i (node_access n a)) e here))
  where
    here : NodeAccessAt (map (node_access n) (accesses_of V n)) i (node_access n a)
    here = slice_get-map (node_access n) (accesses_of V n) i ∙ ap (λ o. option_map (node_access n) o) h
listed_in V (u ∷ order) n a (inr m) h =
    let t = listed_in V order n a m h in
    in_second (map (node_access u) (accesses_of V u)) (node_accesses_of V order) t.0 (node_access n a) t.1

earlier_at : (u n : ℕ) (order : List ℕ) → (u ≡ n → ⊥) → (x : ℕ) → (x ≡ u) ⊎ Earlier order x n → Earlier (u ∷ order) x n
earlier_at u n order ne x h = subst (λ l. Among x l) (sym (ap (λ t. if t then [] else u ∷ before_in order n) (ne_eqb u n ne))) h

-- of two listed accesses, those of one node stand in their order, and else the node of the first stands earlier
pub in_turn : (V : View) (order : List ℕ) → Distinct order → (i j : ℕ) (a b : NodeAccess) → NodeAccessAt (node_accesses_of V order) i a → NodeAccessAt (node_accesses_of V order) j b → i < j → ((a.node ≡ b.node) × Precedes V a.node a.access b.access) ⊎ ((a.node ≡ b.node → ⊥) × Earlier order a.node b.node)
in_turn V [] D i j a b ha hb lt = absurd cc
in_turn V (u ∷ order) D i j a b ha hb lt = go (λ k l e f less. in_turn V order D.1 k l a b e f less) (in_one_part own others i a ha) (in_one_part own others j b hb)
  where
    own : List NodeAccess
    own = map (node_access u) (accesses_of V u)

    others : List NodeAccess
    others = node_accesses_of V order

    other_node : (k : ℕ) (c : NodeAccess) → NodeAccessAt others k c → u ≡ c.node → ⊥
    other_node k c h e = D.0 (subst (λ n. Among n order) (sym e) (listed_of V order k c h).0)

    go : ((k l : ℕ) → NodeAccessAt others k a → NodeAccessAt others l b → k < l → ((a.node ≡ b.node) × Precedes V a.node a.access b.access) ⊎ ((a.node ≡ b.node → ⊥) × Earlier order a.node b.node)) → NodeAccessAt own i a ⊎ ((k : ℕ) × (i ≡ length own + k) × NodeAccessAt others k a) → NodeAccessAt own j b ⊎ ((k : ℕ) × (j ≡ length own + k) × NodeAccessAt others k b) → ((a.node ≡ b.node) × Precedes V a.node a.access b.access) ⊎ ((a.node ≡ b.node → ⊥) × Earlier (u ∷ order) a.node b.node)
    go later (inl e) (inl f) =
        let s = of_node V u i a e in
        let t = of_node V u j b f in
        inl (s.0 ∙ sym t.0, subst (λ m. Precedes V m a.access b.access) (sym s.0) (i, j, lt, s.1, t.1))
    go later (inl e) (inr (k, q, f)) =
        let s = of_node V u i a e in
        let ne = other_node k b f in
        inr (λ same. ne (sym s.0 ∙ same), earlier_at u b.node order ne a.node (inl s.0))
    go later (inr (k, q, e)) (inl f) = let before : j < length own = slice_get_within own j b f in absurd (omega (arith, before, q, lt))
    go later (inr (k, q, e)) (inr (l, r, f)) = ⊎_elim
        (λ t. inl t)
        (λ t. inr (t.0, earlier_at u b.node order (other_node l b f) a.node (inr t.1)))
        (later k l e f (omega (arith, q, r, lt)))
