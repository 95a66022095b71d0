-- The accesses that an order lists, and pairs of them.
use Rattle.std.proofs.Common.{◌≡◌, ◌⊎◌, inl, inr, ℕ, zero, suc, ◌<◌, ◌++◌, List, [], ◌∷◌, map, slice_get, Some, None, refl, sym, ap, ◌∙◌, subst, ⊎_elim, cond, eq-eqb, ne_eqb, arith}
use Rattle.std.specs.Option.{option_map, option_map_or}
use Rattle.std.proofs.lemmas.Option.{slice_get-map}
use Rattle.base.proofs.Lists.{got_front}
use Rattle.check_order.specs.Orders.{Among, Distinct, before_in, Earlier}
use Rattle.check_access.specs.ValidView.{AccessAt, Has, NodeAccessAt}
use Rattle.check_access.specs.Views.{View, accesses_of, node_access, node_accesses_of}
use Rattle.check_access.specs.declared.access.Access.{Access}
use Rattle.check_access.specs.declared.node_access.NodeAccess.{NodeAccess}

abbrev pub In : {X : Type 0} → X → List X → Type 0
In x xs = (i : ℕ) × (slice_get xs i ≡ Some x)

none : {X P : Type 0} (x : X) → None ≡ Some x → P
none x e = absurd cc

-- IN ONE OF TWO LISTS

right_in : {X : Type 0} (xs ys : List X) (x : X) → In x ys → In x (xs ++ ys)
right_in [] ys x h = h
right_in (z ∷ xs) ys x h = let t = right_in xs ys x h in (suc t.0, t.1)

one_part : {X : Type 0} (xs ys : List X) (i : ℕ) (x : X) → slice_get (xs ++ ys) i ≡ Some x → In x xs ⊎ In x ys
one_part [] ys i x h = inr (i, h)
one_part (z ∷ xs) ys zero x h = inl (0, h)
one_part (z ∷ xs) ys (suc i) x h = ⊎_elim (λ t. inl (suc t.0, t.1)) (λ t. inr t) (one_part xs ys i x h)

-- one stands before the other
abbrev pub InTurn : {X : Type 0} → X → X → List X → Type 0
InTurn x y xs = (i : ℕ) × (j : ℕ) × (i < j) × (slice_get xs i ≡ Some x) × (slice_get xs j ≡ Some y)

two_parts : {X : Type 0} (xs ys : List X) (i j : ℕ) (x y : X) → i < j → slice_get (xs ++ ys) i ≡ Some x → slice_get (xs ++ ys) j ≡ Some y → (In x xs × In y xs) ⊎ ((In x xs × In y ys) ⊎ InTurn x y ys)
two_parts [] ys i j x y lt hx hy = inr (inr (i, j, lt, hx, hy))
two_parts (z ∷ xs) ys i zero x y lt hx hy = absurd (omega (arith, lt))
two_parts (z ∷ xs) ys zero (suc j) x y lt hx hy = ⊎_elim (λ t. inl ((0, hx), (suc t.0, t.1))) (λ t. inr (inl ((0, hx), t))) (one_part xs ys j y hy)
two_parts (z ∷ xs) ys (suc i) (suc j) x y lt hx hy = ⊎_elim
    (λ t. inl ((suc t.0.0, t.0.1), (suc t.1.0, t.1.1)))
    (λ s. inr (⊎_elim (λ t. inl ((suc t.0.0, t.0.1), t.1)) (λ t. inr t) s))
    (two_parts xs ys i j x y (omega (arith, lt)) hx hy)

-- THE ACCESSES OF ONE NODE

of_node : (n : ℕ) (xs : List Access) (i : ℕ) (a : NodeAccess) → slice_get (map (node_access n) xs) i ≡ Some a → (a.node ≡ n) × (slice_get xs i ≡ Some a.access)
of_node n [] i a h = none a h
of_node n (x ∷ xs) zero a h = (sym (ap (λ o. option_map_or (λ t. t.node) o 0) h), ap (λ o. option_map (λ t. t.access) o) h)
of_node n (x ∷ xs) (suc i) a h = of_node n xs i a h

accesses_of_node : (V : View) (n : ℕ) (a : NodeAccess) → In a (map (node_access n) (accesses_of V n)) → (a.node ≡ n) × Has V a.node a.access
accesses_of_node V n a (i, h) = let t = of_node n (accesses_of V n) i a h in (t.0, (i, subst (λ m. AccessAt V m i a.access) (sym t.0) t.1))

-- each access of a node of the order is listed
pub listed_in : (V : View) (order : List ℕ) (n : ℕ) (a : Access) → Among n order → Has V n a → In (node_access n a) (node_accesses_of V order)
listed_in V [] n a m h = absurd m
listed_in V (u ∷ order) n a (inl e) (i, h) = (
  i,
  got_front (map (node_access u) (accesses_of V u)) (node_accesses_of V order) i (node_access n a)
      (subst (λ z. slice_get (map (node_access z) (accesses_of V z)) i ≡ Some (node_access n a)) e (slice_get-map (node_access n) (accesses_of V n) i ∙ ap (λ o. option_map (node_access n) o) h)),
)
listed_in V (u ∷ order) n a (inr m) h = right_in (map (node_access u) (accesses_of V u)) (node_accesses_of V order) (node_access n a) (listed_in V order n a m h)

-- each listed access is one of a node of the order
pub listed_of : (V : View) (order : List ℕ) (i : ℕ) (a : NodeAccess) → NodeAccessAt (node_accesses_of V order) i a → Among a.node order × Has V a.node a.access
listed_of V [] i a h = none a h
listed_of V (u ∷ order) i a h = ⊎_elim
    (λ t. let s = accesses_of_node V u a t in (inl s.0, s.1))
    (λ t. let s = listed_of V order t.0 a t.1 in (inr s.0, s.1))
    (one_part (map (node_access u) (accesses_of V u)) (node_accesses_of V order) i a h)

-- EARLIER NODES

none_before : (u n : ℕ) (order : List ℕ) → Earlier (u ∷ order) n u → ⊥
none_before u n order h = subst (λ l. Among n l) (ap (λ t. cond t [] (u ∷ before_in order u)) (eq-eqb u u refl)) h

before_other : (u n m : ℕ) (order : List ℕ) → (u ≡ m → ⊥) → Earlier (u ∷ order) n m → (n ≡ u) ⊎ Earlier order n m
before_other u n m order other h = subst (λ l. Among n l) (ap (λ t. cond t [] (u ∷ before_in order m)) (ne_eqb u m other)) h

never_before : (V : View) (u : ℕ) (order : List ℕ) (a b : NodeAccess) → In a (map (node_access u) (accesses_of V u)) → Earlier (u ∷ order) b.node a.node → ⊥
never_before V u order a b p h = none_before u b.node order (subst (λ n. Earlier (u ∷ order) b.node n) (accesses_of_node V u a p).0 h)

later : (V : View) (u : ℕ) (order : List ℕ) (a b : NodeAccess) → (Among u order → ⊥) → InTurn a b (node_accesses_of V order) → (InTurn a b (node_accesses_of V order) → Earlier order b.node a.node → ⊥) → Earlier (u ∷ order) b.node a.node → ⊥
later V u order a b once t rest h = ⊎_elim
    (λ (e : b.node ≡ u). once (subst (λ n. Among n order) e (listed_of V order t.1 b t.4).0))
    (λ e. rest t e)
    (before_other u b.node a.node order (λ e. once (subst (λ n. Among n order) (sym e) (listed_of V order t.0 a t.3).0)) h)

-- of two listed accesses the later one's node stands not before that of the other
pub not_earlier : (V : View) (order : List ℕ) → Distinct order → (i j : ℕ) (a b : NodeAccess) → NodeAccessAt (node_accesses_of V order) i a → NodeAccessAt (node_accesses_of V order) j b → i < j → Earlier order b.node a.node → ⊥
not_earlier V [] D i j a b ha hb lt h = none a ha
not_earlier V (u ∷ order) D i j a b ha hb lt h = ⊎_elim
    (λ t. never_before V u order a b t.0 h)
    (λ s. ⊎_elim
    (λ t. never_before V u order a b t.0 h)
    (λ t. later V u order a b D.0 t (λ r e. not_earlier V order D.1 r.0 r.1 a b r.3 r.4 r.2 e) h)
    s)
    (two_parts (map (node_access u) (accesses_of V u)) (node_accesses_of V order) i j a b lt ha hb)
