-- The accesses that an order lists.
use Rattle.std.proofs.Common.{◌≡◌, ◌⊎◌, inl, inr, ◌<◌, ◌+◌, ◌++◌, ℕ, zero, suc, List, [], ◌∷◌, length, map, get_or, slice_get, Option, Some, None, refl, sym, ap, ◌∙◌, subst, ⊎_elim, arith}
use Rattle.std.specs.List.{All}
use Rattle.std.specs.Option.{option_map}
use Rattle.std.proofs.lemmas.List.Elements.{All-nil, All-cons, All-map}
use Rattle.std.proofs.lemmas.Option.{slice_get-map, slice_get-get_or, slice_get_within}
use Rattle.check_order.specs.Orders.{Among, Distinct, Order}
use Rattle.base.proofs.Lists.{each_of, entry_of}
use Rattle.check_access.specs.ValidView.{ValidView, Has, NodeAccessAt, Listed, Precedes}
use Rattle.check_access.specs.Views.{View, accesses_of, node_access, node_accesses_of}
use Rattle.check_access.specs.declared.access.Access.{Access}
use Rattle.check_access.specs.declared.node_access.NodeAccess.{NodeAccess}

-- what holds of each number among those of a list
all_among : (P : ℕ → Type 0) (xs : List ℕ) → ((n : ℕ) → Among n xs → P n) → All P xs
all_among P [] h = All-nil P
all_among P (x ∷ xs) h = All-cons P x xs (h x (inl refl)) (all_among P xs (λ n m. h n (inr m)))

pub among_at : (order : List ℕ) (k d : ℕ) → k < length order → Among (get_or order k d) order
among_at [] k d lt = absurd (omega (arith, lt))
among_at (x ∷ order) zero d lt = inl refl
among_at (x ∷ order) (suc k) d lt = inr (among_at order k d (omega (arith, lt)))

-- ONE NODE AND THE OTHERS

in_one_part : {X : Type 0} (xs ys : List X) (i : ℕ) (x : X) → slice_get (xs ++ ys) i ≡ Some x → (slice_get xs i ≡ Some x) ⊎ ((k : ℕ) × (i ≡ length xs + k) × (slice_get ys k ≡ Some x))
in_one_part [] ys i x e = inr (i, omega arith, e)
in_one_part (z ∷ xs) ys zero x e = inl e
in_one_part (z ∷ xs) ys (suc i) x e = ⊎_elim (λ f. inl f) (λ f. let later : i ≡ length xs + f.0 = f.1 in inr (f.0, omega (arith, later), f.2)) (in_one_part xs ys i x e)

pub made_of : (n : ℕ) (o : Option Access) (a : NodeAccess) → option_map (node_access n) o ≡ Some a → (a.node ≡ n) × (o ≡ Some a.access)
made_of n None a e = absurd cc
made_of n (Some x) a e =
    let same : node_access n x ≡ a = cc in
    (ap (λ b. b.node) (sym same), ap (λ b. Some b.access) same)

of_node : (n : ℕ) (xs : List Access) (i : ℕ) (a : NodeAccess) → NodeAccessAt (map (node_access n) xs) i a → (a.node ≡ n) × (slice_get xs i ≡ Some a.access)
of_node n xs i a e = made_of n (slice_get xs i) a (sym (slice_get-map (node_access n) xs i) ∙ e)

each_node_access : (V : View) (P : NodeAccess → Type 0) (order : List ℕ) → All (λ n. All (λ x. P (node_access n x)) (accesses_of V n)) order → All P (node_accesses_of V order)
each_node_access V P order all = each_of P (λ n. map (node_access n) (accesses_of V n)) order (λ k d lt. All-map P (node_access (get_or order k d)) (accesses_of V (get_or order k d)) (all k d lt))

of_order : (V : View) (order : List ℕ) (i : ℕ) (a : NodeAccess) → NodeAccessAt (node_accesses_of V order) i a → Among a.node order
of_order V order i a e =
    entry_of (λ b. Among b.node order) (node_accesses_of V order) i a
    (each_node_access V (λ b. Among b.node order) order (all_among (λ n. All (λ x. Among n order) (accesses_of V n)) order (λ n m. λ k d lt. m))) e

module _ (V : View) where
  own_order : (n i j : ℕ) (a b : NodeAccess) → NodeAccessAt (map (node_access n) (accesses_of V n)) i a → NodeAccessAt (map (node_access n) (accesses_of V n)) j b → i < j → Precedes V a.node a.access b.access
  own_order n i j a b e f lt =
      let of_a = of_node n (accesses_of V n) i a e in
      let of_b = of_node n (accesses_of V n) j b f in
      subst (λ m. Precedes V m a.access b.access) (sym of_a.0) (i, j, lt, of_a.1, of_b.1)

  in_their_order : (order : List ℕ) → Distinct order → (i j : ℕ) (a b : NodeAccess) → NodeAccessAt (node_accesses_of V order) i a → NodeAccessAt (node_accesses_of V order) j b → i < j → a.node ≡ b.node → Precedes V a.node a.access b.access
  in_their_order [] once i j a b e f lt same = absurd cc
  in_their_order (n ∷ rest) once i j a b e f lt same =
      let own = map (node_access n) (accesses_of V n) in
      let others = node_accesses_of V rest in
      ⊎_elim
      (λ (e_own : slice_get own i ≡ Some a).
      ⊎_elim
      (λ (f_own : slice_get own j ≡ Some b). own_order n i j a b e_own f_own lt)
      (λ (f_other : (k : ℕ) × (j ≡ length own + k) × (slice_get others k ≡ Some b)).
      absurd (once.0 (subst (λ m. Among m rest) (sym same ∙ (of_node n (accesses_of V n) i a e_own).0) (of_order V rest f_other.0 b f_other.2))))
      (in_one_part own others j b f))
      (λ (e_other : (k : ℕ) × (i ≡ length own + k) × (slice_get others k ≡ Some a)).
      ⊎_elim
      (λ (f_own : slice_get own j ≡ Some b).
      let before : j < length own = slice_get_within own j b f_own in
      let after : i ≡ length own + e_other.0 = e_other.1 in
      absurd (omega (arith, before, after, lt)))
      (λ (f_other : (k : ℕ) × (j ≡ length own + k) × (slice_get others k ≡ Some b)).
      let p : i ≡ length own + e_other.0 = e_other.1 in
      let q : j ≡ length own + f_other.0 = f_other.1 in
      in_their_order rest once.1 e_other.0 f_other.0 a b e_other.2 f_other.2 (omega (arith, p, q, lt)) same)
      (in_one_part own others j b f))
      (in_one_part own others i a e)

  pub listed : (order : List ℕ) → ValidView V → Order V.nodes order → Listed V (node_accesses_of V order)
  listed order S O = record {
    node = λ i a e. O.only a.node (of_order V order i a e);
    has = λ i a e. entry_of (λ b. Has V b.node b.access) (node_accesses_of V order) i a
        (each_node_access V (λ b. Has V b.node b.access) order (λ m d lt. λ k x below. (k, slice_get-get_or (accesses_of V (get_or order m d)) k x below))) e;
    in_order = in_their_order order O.once;
    last = λ i j a b e f lt same c.
        let p = in_their_order order O.once i j a b e f lt same in
        S.last a.node p.0 p.1 a.access b.access p.3 p.4 p.2 c;
  }
