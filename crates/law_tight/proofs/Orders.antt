-- From an order of given nodes to one of nodes that follow them.
use Rattle.std.proofs.Common.{◌≡◌, ◌⊎◌, inl, inr, ⊎_elim, ℕ, ◌<◌, nat_lt, not, true, List, [], ◌∷◌, length, Option, Some, None, option_map, refl, sym, ap, ◌∙◌, subst}
use Rattle.std.specs.List.{cons_option, filter_map}
use Rattle.std.proofs.lemmas.Bool.{and_from, and_parts, cases_eq, lt-ltb, ltb-true}
use Rattle.base.proofs.Absence.{some_same}
use Rattle.check_order.proofs.InOrder.{past, up_to}
use Rattle.check_order.specs.Edges.{is_host, is_wait, meeting, node_at}
use Rattle.check_order.specs.Orders.{Among, Distinct, before_in, Earlier, is_queued, Order}
use Rattle.check_order.specs.declared.node.Node.{Node}
use Rattle.law_tight.proofs.Edges.{edge_given, meeting_alike}
use Rattle.law_tight.proofs.Followed.{Follows}

some_none : {X : Type 0} {x : X} → Some x ≡ None → ⊥
some_none e = cc

module _ (given nodes : List Node) (up : ℕ → ℕ) (down : ℕ → Option ℕ) (F : Follows given nodes up down) where
  -- LISTS OF NUMBERS

  from_up : (x n : ℕ) → up n ≡ x → down x ≡ Some n
  from_up x n e = ap down (sym e) ∙ F.back n

  pub is_up : (list : List ℕ) (n : ℕ) → Among n (filter_map down list) → Among (up n) list
  is_up [] n a = a
  is_up (x ∷ rest) n a = go (down x) refl a (is_up rest n)
    where
      go : (o : Option ℕ) → down x ≡ o → Among n (cons_option o (filter_map down rest)) → (Among n (filter_map down rest) → Among (up n) rest) → (up n ≡ x) ⊎ Among (up n) rest
      go None e b more = inr (more b)
      go (Some m) e (inl same) more = inl (ap up same ∙ F.forth x m e)
      go (Some m) e (inr b) more = inr (more b)

  pub is_down : (list : List ℕ) (n : ℕ) → Among (up n) list → Among n (filter_map down list)
  is_down [] n a = a
  is_down (x ∷ rest) n a = go (down x) refl a (is_down rest n)
    where
      go : (o : Option ℕ) → down x ≡ o → (up n ≡ x) ⊎ Among (up n) rest → (Among (up n) rest → Among n (filter_map down rest)) → Among n (cons_option o (filter_map down rest))
      go None e (inl same) more = absurd (some_none (sym (from_up x n same) ∙ e))
      go None e (inr b) more = more b
      go (Some m) e (inl same) more = inl (some_same (sym (from_up x n same) ∙ e))
      go (Some m) e (inr b) more = inr (more b)

  distinct : (list : List ℕ) → Distinct list → Distinct (filter_map down list)
  distinct [] D = tt
  distinct (x ∷ rest) D = go (down x) refl (distinct rest D.1)
    where
      go : (o : Option ℕ) → down x ≡ o → Distinct (filter_map down rest) → Distinct (cons_option o (filter_map down rest))
      go None e more = more
      go (Some m) e more = ((λ a. D.0 (subst (λ z. Among z rest) (F.forth x m e) (is_up rest m a))), more)

  before_down : (list : List ℕ) (n : ℕ) → before_in (filter_map down list) n ≡ filter_map down (before_in list (up n))
  before_down [] n = refl
  before_down (x ∷ rest) n = go (down x) refl (before_down rest n)
    where
      go : (o : Option ℕ) → down x ≡ o → before_in (filter_map down rest) n ≡ filter_map down (before_in rest (up n)) → before_in (cons_option o (filter_map down rest)) n ≡ filter_map down (before_in (x ∷ rest) (up n))
      go None e more =
          more
          ∙ ap (λ o. cons_option o (filter_map down (before_in rest (up n)))) (sym e)
          ∙ ap (filter_map down) (sym (past x (up n) rest (λ same. some_none (sym (from_up x n (sym same)) ∙ e))))
      go (Some m) e more = ⊎_elim
          (λ (same : m ≡ n). up_to m n (filter_map down rest) same ∙ ap (filter_map down) (sym (up_to x (up n) rest (sym (F.forth x m e) ∙ ap up same))))
          (λ (other : m ≡ n → ⊥).
          past m n (filter_map down rest) other
          ∙ ap (λ l. m ∷ l) more
          ∙ ap (λ o. cons_option o (filter_map down (before_in rest (up n)))) (sym e)
          ∙ ap (filter_map down) (sym (past x (up n) rest (λ same. other (some_same (sym e ∙ from_up x n (sym same)))))))
          (cases_eq m n)

  earlier : (list : List ℕ) (x n : ℕ) → Earlier list (up x) (up n) → Earlier (filter_map down list) x n
  earlier list x n e = subst (Among x) (sym (before_down list n)) (is_down (before_in list (up n)) x e)

  -- ORDERS

  queued_up : (n : ℕ) → is_queued nodes n ≡ true → is_queued given (up n) ≡ true
  queued_up n h =
      let L = F.alike n in
      let p = and_parts (nat_lt n (length nodes)) (not (is_host (node_at nodes n).kind)) h in
      and_from (nat_lt (up n) (length given)) (not (is_host (node_at given (up n)).kind)) (lt-ltb (up n) (length given) (F.within n (ltb-true n (length nodes) p.0))) (ap (λ k. not (is_host k)) (sym L.kind) ∙ p.1)

  module _ (list : List ℕ) (O : Order given list) where
    queue_turn : (x n : ℕ) → Among n (filter_map down list) → is_queued nodes n ≡ true → x < n → (node_at nodes x).queue ≡ (node_at nodes n).queue → Earlier (filter_map down list) x n
    queue_turn x n a q lt same =
        let K = F.alike x in
        let L = F.alike n in
        earlier list x n (O.turns.queue (up x) (up n) (is_up list n a) (queued_up n q) (F.rises x n lt) (sym K.queue ∙ same ∙ L.queue))

    met_turn : (n : ℕ) → Among n (filter_map down list) → is_wait (node_at nodes n).kind ≡ true → (x : ℕ) × (meeting nodes (node_at nodes n).kind ≡ Some x) × Earlier (filter_map down list) x n
    met_turn n a w =
        let L = F.alike n in
        let m = O.turns.met (up n) (is_up list n a) (ap is_wait (sym L.kind) ∙ w) in
        go (meeting nodes (node_at nodes n).kind) refl m.0 (sym (meeting_alike given nodes up down F (node_at nodes n).kind) ∙ ap (meeting given) L.kind ∙ m.1) m.2
      where
        go : (o : Option ℕ) → meeting nodes (node_at nodes n).kind ≡ o → (y : ℕ) → option_map up (meeting nodes (node_at nodes n).kind) ≡ Some y → Earlier list y (up n) → (x : ℕ) × (meeting nodes (node_at nodes n).kind ≡ Some x) × Earlier (filter_map down list) x n
        go None e y is before = absurd (some_none (sym is ∙ ap (option_map up) e))
        go (Some x) e y is before = (x, e, earlier list x n (subst (λ z. Earlier list z (up n)) (some_same (sym is ∙ ap (option_map up) e)) before))

    pub order_of : Order nodes (filter_map down list)
    order_of = record {
      once = distinct list O.once;
      all = λ n lt. is_down list n (O.all (up n) (F.within n lt));
      only = λ n a. F.inside n (O.only (up n) (is_up list n a));
      turns = record { queue = queue_turn; met = met_turn };
      forward = λ x n a e. earlier list x n (O.forward (up x) (up n) (is_up list n a) (edge_given given nodes up down F x n e));
    }
