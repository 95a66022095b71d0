-- What comes next in an order: all earlier nodes of its queue are done, and no later one.
use Rattle.std.proofs.Common.{◌≡◌, ◌⊎◌, inl, inr, ℕ, zero, suc, ◌+◌, ◌<◌, not, nat_lt, true, false, Some, List, [], ◌∷◌, length, get_or, refl, sym, ap, ◌∙◌, subst, ⊎_elim, arith}
use Rattle.std.proofs.lemmas.Bool.{and_from, cases_eq, cases_order, lt-ltb}
use Rattle.base.proofs.Absence.{some_same}
use Rattle.check_order.proofs.InOrder.{not_both, past, up_to}
use Rattle.check_order.specs.Edges.{is_host, node_at, meeting}
use Rattle.check_order.specs.Orders.{Among, Distinct, Earlier, Order, is_queued}
use Rattle.check_order.specs.declared.node.Node.{Node}
use Rattle.check_table.specs.Internal.Laying.{DoneIn}
use Rattle.check_table.proofs.Signals.{met_wait}

among_at : (list : List ℕ) (n : ℕ) → Among n list → (p : ℕ) × (p < length list) × (get_or list p 0 ≡ n)
among_at [] n h = absurd h
among_at (u ∷ list) n (inl e) = (0, omega arith, sym e)
among_at (u ∷ list) n (inr h) = let r = among_at list n h in (suc r.0, omega (arith, r.1), r.2)

pub at_among : (list : List ℕ) (p : ℕ) → p < length list → Among (get_or list p 0) list
at_among [] p lt = absurd (omega (arith, lt))
at_among (u ∷ list) zero lt = inl refl
at_among (u ∷ list) (suc p) lt = inr (at_among list p (omega (arith, lt)))

earlier_at : (list : List ℕ) (p q : ℕ) → Distinct list → p < q → q < length list → Earlier list (get_or list p 0) (get_or list q 0)
earlier_at [] p q d lt within = absurd (omega (arith, within))
earlier_at (u ∷ list) p zero d lt within = absurd (omega (arith, lt))
earlier_at (u ∷ list) zero (suc q) d lt within = subst (λ l. Among u l) (sym (past u (get_or list q 0) list (λ e. d.0 (subst (λ n. Among n list) (sym e) (at_among list q (omega (arith, within))))))) (inl refl)
earlier_at (u ∷ list) (suc p) (suc q) d lt within = subst (λ l. Among (get_or list p 0) l) (sym (past u (get_or list q 0) list (λ e. d.0 (subst (λ n. Among n list) (sym e) (at_among list q (omega (arith, within))))))) (inr (earlier_at list p q d.1 (omega (arith, lt)) (omega (arith, within))))

-- what stands before an element of the list is in it
before_among : (list : List ℕ) (x n : ℕ) → Earlier list x n → Among x list
before_among [] x n h = h
before_among (z ∷ l) x n h = ⊎_elim
    (λ e. absurd (subst (λ k. Among x k) (up_to z n l e) h))
    (λ ne. ⊎_elim (λ k. inl k) (λ k. inr (before_among l x n k)) (subst (λ k. Among x k) (past z n l ne) h))
    (cases_eq z n)

-- what stands earlier has a lesser place
place_before : (list : List ℕ) (x n i k : ℕ) → Distinct list → Earlier list x n → i < length list → k < length list → get_or list i 0 ≡ x → get_or list k 0 ≡ n → i < k
place_before list x n i k d h li lk e f = ⊎_elim
    (λ q. absurd (let same : x ≡ n = sym e ∙ ap (λ j. get_or list j 0) q ∙ f in not_both list x n h (subst (λ m. Earlier list m x) same (subst (λ m. Earlier list x m) (sym same) h))))
    (λ o. ⊎_elim (λ l. l)
    (λ l. absurd (not_both list x n h (subst (λ m. Earlier list m x) f (subst (λ m. Earlier list (get_or list k 0) m) e (earlier_at list k i d l li)))))
    o)
    (cases_order i k)

-- node n has no place yet, and all nodes before it have
pub record IsNext (nodes : List Node) (Done : ℕ → Type 0) (n : ℕ) : Type 0 where
  pub fresh : Done n → ⊥
  pub there : n < length nodes
  pub after : (x : ℕ) → Done x → is_host (node_at nodes x).kind ≡ false → (node_at nodes x).queue ≡ (node_at nodes n).queue → x < n
  pub before : (x : ℕ) → is_host (node_at nodes n).kind ≡ false → x < n → (node_at nodes x).queue ≡ (node_at nodes n).queue → Done x
  pub met : (g : ℕ) → meeting nodes (node_at nodes n).kind ≡ Some g → Done g

queued : (nodes : List Node) (n : ℕ) → n < length nodes → is_host (node_at nodes n).kind ≡ false → is_queued nodes n ≡ true
queued nodes n lt h = and_from (nat_lt n (length nodes)) (not (is_host (node_at nodes n).kind)) (lt-ltb n (length nodes) lt) (ap not h)

pub next : (nodes : List Node) (order : List ℕ) (k : ℕ) → Order nodes order → k < length order → IsNext nodes (DoneIn order k) (get_or order k 0)
next nodes order k O lk = record {
  fresh = λ (i, li, e). own i li e;
  there = O.only n (at_among order k lk);
  after = λ x (i, li, e) h q. ⊎_elim
      (λ s. absurd (own i li (e ∙ s)))
      (λ o. ⊎_elim (λ l. l) (λ l. absurd (late x i li e h q l)) o)
      (cases_order x n);
  before = λ x h lt q.
      let turn = O.turns.queue x n (at_among order k lk) (queued nodes n (O.only n (at_among order k lk)) h) lt q in
      earlier_done x turn;
  met = λ g e.
      let m = O.turns.met n (at_among order k lk) (met_wait nodes (node_at nodes n).kind g e) in
      earlier_done g (subst (λ z. Earlier order z n) (some_same (sym m.1 ∙ e)) m.2);
}
  where
    n : ℕ
    n = get_or order k 0

    own : (i : ℕ) → i < k → get_or order i 0 ≡ get_or order k 0 → ⊥
    own i li e =
        let h = earlier_at order i k O.once li lk in
        not_both order (get_or order i 0) (get_or order k 0) h (subst (λ m. Earlier order m (get_or order i 0)) e (subst (λ m. Earlier order (get_or order i 0) m) (sym e) h))

    late : (x i : ℕ) → i < k → get_or order i 0 ≡ x → is_host (node_at nodes x).kind ≡ false → (node_at nodes x).queue ≡ (node_at nodes (get_or order k 0)).queue → get_or order k 0 < x → ⊥
    late x i li e h q l =
        let among : Among x order = subst (λ m. Among m order) e (at_among order i (omega (arith, li, lk))) in
        let turn = O.turns.queue (get_or order k 0) x among (queued nodes x (O.only x among) h) l (sym q) in
        let b = place_before order (get_or order k 0) x k i O.once turn lk (omega (arith, li, lk)) refl e in
        omega (arith, b, li)

    earlier_done : (x : ℕ) → Earlier order x (get_or order k 0) → DoneIn order k x
    earlier_done x h =
        let r = among_at order x (before_among order x (get_or order k 0) h) in
        (r.0, place_before order x (get_or order k 0) r.0 k O.once h r.1 lk r.2 refl, r.2)

-- all nodes are done at the end
pub all_done : (nodes : List Node) (order : List ℕ) → Order nodes order → (n : ℕ) → n < length nodes → DoneIn order (length order) n
all_done nodes order O n lt = let r = among_at order n (O.all n lt) in (r.0, r.1, r.2)

pub done_there : (nodes : List Node) (order : List ℕ) → Order nodes order → (n : ℕ) → DoneIn order (length order) n → n < length nodes
done_there nodes order O n (i, lt, e) = O.only n (subst (λ m. Among m order) e (at_among order i lt))

pub done_more : (order : List ℕ) (k n : ℕ) → DoneIn order k n → DoneIn order (k + 1) n
done_more order k n (i, lt, e) = (i, omega (arith, lt), e)

pub done_own : (order : List ℕ) (k : ℕ) → DoneIn order (k + 1) (get_or order k 0)
done_own order k = (k, omega arith, refl)

pub done_cases : (order : List ℕ) (k n : ℕ) → DoneIn order (k + 1) n → DoneIn order k n ⊎ (n ≡ get_or order k 0)
done_cases order k n (i, lt, e) = ⊎_elim
    (λ q. inr (sym e ∙ ap (λ j. get_or order j 0) q))
    (λ o. ⊎_elim (λ l. inl (i, l, e)) (λ l. absurd (omega (arith, l, lt))) o)
    (cases_order i k)
