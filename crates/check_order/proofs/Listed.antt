-- How many nodes an order has.
use Rattle.std.proofs.Common.{◌≡◌, ◌⊎◌, inl, inr, ℕ, zero, suc, ◌+◌, ◌<◌, ◌≤◌, ◌==◌, List, [], ◌∷◌, length, refl, sym, ap, subst, ⊎_elim, eq-eqb, ne_eqb, cond, arith}
use Rattle.std.proofs.lemmas.Bool.{cases_eq}
use Rattle.check_order.specs.Orders.{Among, Distinct, before_in, Order}
use Rattle.check_order.specs.declared.node.Node.{Node}

pub among_before : (list : List ℕ) (x n : ℕ) → Among x (before_in list n) → Among x list
among_before [] x n h = h
among_before (u ∷ list) x n h = ⊎_elim
    (λ (e : u ≡ n). absurd (subst (λ l. Among x l) (ap (λ t. cond t [] (u ∷ before_in list n)) (eq-eqb u n e)) h))
    (λ ne. ⊎_elim (λ k. inl k) (λ k. inr (among_before list x n k)) (subst (λ l. Among x l) (ap (λ t. cond t [] (u ∷ before_in list n)) (ne_eqb u n ne)) h))
    (cases_eq u n)

-- the list without its first n
abbrev without : ℕ → List ℕ → List ℕ
without n [] = []
without n (x ∷ list) = cond (x == n) list (x ∷ without n list)

at_first : (n x : ℕ) (list : List ℕ) → x ≡ n → without n (x ∷ list) ≡ list
at_first n x list e = ap (λ t. cond t list (x ∷ without n list)) (eq-eqb x n e)

past_first : (n x : ℕ) (list : List ℕ) → (x ≡ n → ⊥) → without n (x ∷ list) ≡ x ∷ without n list
past_first n x list ne = ap (λ t. cond t list (x ∷ without n list)) (ne_eqb x n ne)

less_by_one : (n : ℕ) (list : List ℕ) → length list ≤ 1 + length (without n list)
less_by_one n [] = omega arith
less_by_one n (x ∷ list) = ⊎_elim
    (λ e. let k = ap length (at_first n x list e) in omega (arith, k))
    (λ ne. let k = ap length (past_first n x list ne) in let l = less_by_one n list in omega (arith, k, l))
    (cases_eq x n)

in_without : (n : ℕ) (list : List ℕ) (y : ℕ) → Among y (without n list) → Among y list
in_without n [] y h = h
in_without n (x ∷ list) y h = ⊎_elim
    (λ e. inr (subst (λ l. Among y l) (at_first n x list e) h))
    (λ ne. ⊎_elim (λ k. inl k) (λ k. inr (in_without n list y k)) (subst (λ l. Among y l) (past_first n x list ne) h))
    (cases_eq x n)

not_without : (n : ℕ) (list : List ℕ) → Distinct list → Among n (without n list) → ⊥
not_without n [] d h = h
not_without n (x ∷ list) d h = ⊎_elim
    (λ e. d.0 (subst (λ z. Among z list) (sym e) (subst (λ l. Among n l) (at_first n x list e) h)))
    (λ ne. ⊎_elim (λ k. ne (sym k)) (λ k. not_without n list d.1 k) (subst (λ l. Among n l) (past_first n x list ne) h))
    (cases_eq x n)

still_distinct : (n : ℕ) (list : List ℕ) → Distinct list → Distinct (without n list)
still_distinct n [] d = d
still_distinct n (x ∷ list) d = ⊎_elim
    (λ e. subst (λ l. Distinct l) (sym (at_first n x list e)) d.1)
    (λ ne. subst (λ l. Distinct l) (sym (past_first n x list ne)) ((λ h. d.0 (in_without n list x h)), still_distinct n list d.1))
    (cases_eq x n)

-- different numbers below a bound are no more than the bound
few_below : (bound : ℕ) (list : List ℕ) → Distinct list → ((y : ℕ) → Among y list → y < bound) → length list ≤ bound
few_below zero [] d below = omega arith
few_below zero (x ∷ list) d below = absurd (let l = below x (inl refl) in omega (arith, l))
few_below (suc n) list d below =
    let l = less_by_one n list in
    let m = few_below n (without n list) (still_distinct n list d) (λ y h. let b = below y (in_without n list y h) in smaller y h b (cases_eq y n)) in
    omega (arith, l, m)
  where
    smaller : (y : ℕ) → Among y (without n list) → y < suc n → (y ≡ n) ⊎ (y ≡ n → ⊥) → y < n
    smaller y h b (inl e) = absurd (not_without n list d (subst (λ z. Among z (without n list)) e h))
    smaller y h b (inr ne) = omega (arith, b, ne)

pub order_fits : (nodes : List Node) (order : List ℕ) → Order nodes order → length order ≤ length nodes
order_fits nodes order O = few_below (length nodes) order O.once O.only

-- the same of a program's nodes, which are counted
pub order_few : (nodes edges : List Node) (order : List ℕ) (n : ℕ) → edges ≡ nodes → Order nodes order → n ≡ length edges → n ≤ 20000 → length order ≤ 20000
order_few nodes edges order n same O count few = let f = order_fits edges order (subst (λ z. Order z order) (sym same) O) in omega (arith, f, count, few)
