-- Nodes that have an order have a least one: again and again the least node that may come next.
use Rattle.std.proofs.Common.{◌≡◌, ◌⊎◌, inl, inr, ℕ, zero, suc, ◌<◌, ◌≤◌, Bool, true, false, ◌&&◌, ◌||◌, ◌==◌, nat_lt, Option, Some, None, is_none, List, [], ◌∷◌, length, if◌then◌else◌, refl, sym, ap, ◌∙◌, subst, ⊎_elim, eq-eqb, eqb-true, arith}
use Rattle.std.proofs.lemmas.Bool.{cases_lt, cases_Bool, false≢true, and_parts, and_from, or_cases, or_left, or_right, lt-ltb, ltb-true}
use Rattle.law_plan.specs.Laws.{OrderGivesLeast}
use Rattle.check_order.proofs.Bridge.{meets_edge, to_walk, never_false}
use Rattle.check_order.proofs.Listed.{among_before}
use Rattle.check_order.proofs.Steps.{Needs, Available, Greedy, WholeWalk, LeastWalk, Whole, add, nothing, placed-in, placed-split, greedy-whole, stuck-walk, walk-earlier, walk-met, walk-once, walk-small}
use Rattle.check_order.specs.Edges.{edge, is_wait, meeting, node_at}
use Rattle.check_order.specs.Orders.{Among, Earlier, Order, is_queued}
use Rattle.check_order.specs.declared.node.Node.{Node}

-- THE LEAST NUMBER

-- a least number with a property, or none below a bound has it
abbrev Found : (ℕ → Type 0) → ℕ → Type 0
Found Has bound = ((n : ℕ) × Has n × ((m : ℕ) → Has m → n ≤ m)) ⊎ ((m : ℕ) → m < bound → Has m → ⊥)

module _ (Has : ℕ → Type 0) (decided : (n : ℕ) → Has n ⊎ (Has n → ⊥)) where
  found_next : (k : ℕ) → Found Has k → Has k ⊎ (Has k → ⊥) → Found Has (suc k)
  found_next k (inl found) here = inl found
  found_next k (inr none) (inl has) = inl (k, has, λ m h. not_below m h (cases_lt m k))
    where
      not_below : (m : ℕ) → Has m → (m < k) ⊎ (k ≤ m) → k ≤ m
      not_below m h (inl lt) = absurd (none m lt h)
      not_below m h (inr le) = le
  found_next k (inr none) (inr out) = inr (λ m lt h. not_at m h lt (cases_lt m k))
    where
      not_at : (m : ℕ) → Has m → m < suc k → (m < k) ⊎ (k ≤ m) → ⊥
      not_at m h lt (inl less) = none m less h
      not_at m h lt (inr le) = let e : m ≡ k = omega (arith, lt, le) in out (subst Has e h)

  found_below : (bound : ℕ) → Found Has bound
  found_below zero = inr (λ m lt h. omega (arith, lt))
  found_below (suc k) = found_next k (found_below k) (decided k)

-- ONE NODE AFTER ANOTHER

-- how many numbers of a list are not placed
abbrev left : (ℕ → Bool) → List ℕ → ℕ
left placed [] = 0
left placed (n ∷ rest) = if placed n then left placed rest else suc (left placed rest)

left_more : (placed : ℕ → Bool) (y n : ℕ) (rest : List ℕ) → left (add placed y) rest ≤ left placed rest → left (add placed y) (n ∷ rest) ≤ left placed (n ∷ rest)
left_more placed y n rest le = go (cases_Bool (placed n)) (cases_Bool (add placed y n))
  where
    out : (p : ℕ → Bool) → p n ≡ false → left p (n ∷ rest) ≡ suc (left p rest)
    out p e = ap (λ b. if b then left p rest else suc (left p rest)) e

    there : (p : ℕ → Bool) → p n ≡ true → left p (n ∷ rest) ≡ left p rest
    there p e = ap (λ b. if b then left p rest else suc (left p rest)) e

    go : (placed n ≡ true) ⊎ (placed n ≡ false) → (add placed y n ≡ true) ⊎ (add placed y n ≡ false) → left (add placed y) (n ∷ rest) ≤ left placed (n ∷ rest)
    go (inl e) f = omega (arith, there placed e, there (add placed y) (or_right (n == y) (placed n) e), le)
    go (inr e) (inl f) = omega (arith, out placed e, there (add placed y) f, le)
    go (inr e) (inr f) = omega (arith, out placed e, out (add placed y) f, le)

no_more : (placed : ℕ → Bool) (y : ℕ) (list : List ℕ) → left (add placed y) list ≤ left placed list
no_more placed y [] = omega arith
no_more placed y (n ∷ rest) = left_more placed y n rest (no_more placed y rest)

-- a number that is placed is left no more
fewer : (placed : ℕ → Bool) (y : ℕ) (list : List ℕ) → placed y ≡ false → Among y list → left (add placed y) list < left placed list
fewer placed y [] fresh none = absurd none
fewer placed y (n ∷ rest) fresh (inl e) =
    let was : left placed (n ∷ rest) ≡ suc (left placed rest) = ap (λ b. if b then left placed rest else suc (left placed rest)) (subst (λ z. placed z ≡ false) e fresh) in
    let now : left (add placed y) (n ∷ rest) ≡ left (add placed y) rest = ap (λ b. if b then left (add placed y) rest else suc (left (add placed y) rest)) (or_left (n == y) (placed n) (eq-eqb n y (sym e))) in
    omega (arith, was, now, no_more placed y rest)
fewer placed y (n ∷ rest) fresh (inr later) = go (cases_Bool (placed n)) (cases_Bool (add placed y n)) (fewer placed y rest fresh later)
  where
    out : (p : ℕ → Bool) → p n ≡ false → left p (n ∷ rest) ≡ suc (left p rest)
    out p e = ap (λ b. if b then left p rest else suc (left p rest)) e

    there : (p : ℕ → Bool) → p n ≡ true → left p (n ∷ rest) ≡ left p rest
    there p e = ap (λ b. if b then left p rest else suc (left p rest)) e

    go : (placed n ≡ true) ⊎ (placed n ≡ false) → (add placed y n ≡ true) ⊎ (add placed y n ≡ false) → left (add placed y) rest < left placed rest → left (add placed y) (n ∷ rest) < left placed (n ∷ rest)
    go (inl e) f lt = omega (arith, there placed e, there (add placed y) (or_right (n == y) (placed n) e), lt)
    go (inr e) (inl f) lt = omega (arith, out placed e, there (add placed y) f, lt)
    go (inr e) (inr f) lt = omega (arith, out placed e, out (add placed y) f, lt)

module _ (N : Needs) (low : (x n : ℕ) → n < N.count → N.needs x n ≡ true → x < N.count) where
  -- n needs x, which is not placed
  record Lacks (placed : ℕ → Bool) (n x : ℕ) : Type 0 where
    pub needed : N.needs x n ≡ true
    pub missing : placed x ≡ false

  lacks : (placed : ℕ → Bool) (n x : ℕ) → Lacks placed n x ⊎ (Lacks placed n x → ⊥)
  lacks placed n x = go (cases_Bool (N.needs x n)) (cases_Bool (placed x))
    where
      go : (N.needs x n ≡ true) ⊎ (N.needs x n ≡ false) → (placed x ≡ true) ⊎ (placed x ≡ false) → Lacks placed n x ⊎ (Lacks placed n x → ⊥)
      go (inl e) (inl f) = inr (λ l. false≢true (sym l.missing ∙ f))
      go (inl e) (inr f) = inl (record { needed = e; missing = f })
      go (inr e) f = inr (λ l. false≢true (sym e ∙ l.needed))

  available : (placed : ℕ → Bool) (n : ℕ) → Available N placed n ⊎ (Available N placed n → ⊥)
  available placed n = small (cases_lt n N.count)
    where
      supplied : n < N.count → placed n ≡ false → N.never n ≡ false → Found (Lacks placed n) N.count → Available N placed n ⊎ (Available N placed n → ⊥)
      supplied lt fresh met (inl found) = inr (λ a. false≢true (sym found.1.missing ∙ a.after found.0 found.1.needed))
      supplied lt fresh met (inr none) = inl (record { small = lt; fresh = fresh; met = met; after = after })
        where
          there : (x : ℕ) → N.needs x n ≡ true → (placed x ≡ true) ⊎ (placed x ≡ false) → placed x ≡ true
          there x h (inl e) = e
          there x h (inr e) = absurd (none x (low x n lt h) (record { needed = h; missing = e }))

          after : (x : ℕ) → N.needs x n ≡ true → placed x ≡ true
          after x h = there x h (cases_Bool (placed x))

      met_next : n < N.count → placed n ≡ false → (N.never n ≡ true) ⊎ (N.never n ≡ false) → Available N placed n ⊎ (Available N placed n → ⊥)
      met_next lt fresh (inl e) = inr (λ a. false≢true (sym a.met ∙ e))
      met_next lt fresh (inr e) = supplied lt fresh e (found_below (Lacks placed n) (lacks placed n) N.count)

      fresh_next : n < N.count → (placed n ≡ true) ⊎ (placed n ≡ false) → Available N placed n ⊎ (Available N placed n → ⊥)
      fresh_next lt (inl e) = inr (λ a. false≢true (sym a.fresh ∙ e))
      fresh_next lt (inr e) = met_next lt e (cases_Bool (N.never n))

      small : (n < N.count) ⊎ (N.count ≤ n) → Available N placed n ⊎ (Available N placed n → ⊥)
      small (inl lt) = fresh_next lt (cases_Bool (placed n))
      small (inr ge) = inr (λ a. let l = a.small in omega (arith, ge, l))

  -- where there is a walk through all numbers, there is one that always takes the least
  module _ (walk : List ℕ) (through : WholeWalk N walk) where
    among : (n : ℕ) → n < N.count → Among n walk
    among n lt = ⊎_elim (λ e. absurd (false≢true e)) (λ a. a) (placed-split walk nothing n (through.whole n lt))

    record Rest (placed : ℕ → Bool) : Type 0 where
      pub list : List ℕ
      pub greedy : Greedy N placed list
      pub whole : Whole N placed list

    done : (placed : ℕ → Bool) → ((y : ℕ) → y < N.count → Available N placed y → ⊥) → Rest placed
    done placed none = record {
      list = [];
      greedy = tt;
      whole = λ n lt. stuck-walk N nothing placed walk (λ x e. absurd (false≢true e)) (λ y a. none y a.small a) through.walk n (among n lt);
    }

    takes : (placed : ℕ → Bool) (y : ℕ) → Available N placed y → left (add placed y) walk < left placed walk
    takes placed y a = fewer placed y walk a.fresh (among y a.small)

    last : (placed : ℕ → Bool) → left placed walk ≤ 0 → Found (Available N placed) N.count → Rest placed
    last placed few (inl found) = absurd (let less = takes placed found.0 found.1 in omega (arith, less, few))
    last placed few (inr none) = done placed none

    more : (k : ℕ) (placed : ℕ → Bool) → left placed walk ≤ suc k → ((y : ℕ) → left (add placed y) walk ≤ k → Rest (add placed y)) → Found (Available N placed) N.count → Rest placed
    more k placed few next (inr none) = done placed none
    more k placed few next (inl found) =
        let less = takes placed found.0 found.1 in
        let rest = next found.0 (omega (arith, less, few)) in
        record { list = found.0 ∷ rest.list; greedy = (found.1, found.2, rest.greedy); whole = rest.whole }

    rest_from : (k : ℕ) (placed : ℕ → Bool) → left placed walk ≤ k → Rest placed
    rest_from zero placed few = last placed few (found_below (Available N placed) (available placed) N.count)
    rest_from (suc k) placed few = more k placed few (λ y. rest_from k (add placed y)) (found_below (Available N placed) (available placed) N.count)

    least_walk : (list : List ℕ) × LeastWalk N list
    least_walk = let rest = rest_from (left nothing walk) nothing (omega arith) in (rest.list, greedy-whole N rest.list rest.greedy rest.whole)

-- NODES

-- what has to stand before a node, and which node can stand nowhere
abbrev needs_of_nodes : List Node → Needs
needs_of_nodes nodes = record {
  count = length nodes;
  needs = λ x n. edge nodes x n || (is_queued nodes n && (((node_at nodes x).queue == (node_at nodes n).queue) && nat_lt x n));
  never = λ n. is_wait (node_at nodes n).kind && is_none (meeting nodes (node_at nodes n).kind);
}

is_met : (waits : Bool) (met : Option ℕ) → (waits && is_none met) ≡ false → waits ≡ true → (x : ℕ) × (met ≡ Some x)
is_met false met e f = absurd (false≢true f)
is_met true None e f = absurd (false≢true (sym e))
is_met true (Some x) e f = (x, refl)

module _ (nodes : List Node) where
  abbrev N : Needs
  N = needs_of_nodes nodes

  on_queue : (x n : ℕ) → (is_queued nodes n && (((node_at nodes x).queue == (node_at nodes n).queue) && nat_lt x n)) ≡ true → (is_queued nodes n ≡ true) × ((node_at nodes x).queue ≡ (node_at nodes n).queue) × (x < n)
  on_queue x n e =
      let p = and_parts (is_queued nodes n) (((node_at nodes x).queue == (node_at nodes n).queue) && nat_lt x n) e in
      let r = and_parts ((node_at nodes x).queue == (node_at nodes n).queue) (nat_lt x n) p.1 in
      (p.0, eqb-true (node_at nodes x).queue (node_at nodes n).queue r.0, ltb-true x n r.1)

  in_order : (list : List ℕ) → WholeWalk N list → Order nodes list
  in_order list w = record {
    once = walk-once N nothing list w.walk;
    all = λ n lt. ⊎_elim (λ e. absurd (false≢true e)) (λ a. a) (placed-split list nothing n (w.whole n lt));
    only = λ n a. walk-small N nothing list w.walk n a;
    turns = record {
      queue = λ x n a q lt same. earlier x n a (or_right (edge nodes x n) (is_queued nodes n && (((node_at nodes x).queue == (node_at nodes n).queue) && nat_lt x n)) (and_from (is_queued nodes n) (((node_at nodes x).queue == (node_at nodes n).queue) && nat_lt x n) q (and_from ((node_at nodes x).queue == (node_at nodes n).queue) (nat_lt x n) (eq-eqb (node_at nodes x).queue (node_at nodes n).queue same) (lt-ltb x n lt))));
      met = λ n a k.
          let m = is_met (is_wait (node_at nodes n).kind) (meeting nodes (node_at nodes n).kind) (walk-met N nothing list w.walk n a) k in
          (m.0, m.1, by_edge m.0 n a (meets_edge nodes m.0 n m.1));
    };
    forward = λ x n a e. by_edge x n a e;
  }
    where
      earlier : (x n : ℕ) → Among n list → N.needs x n ≡ true → Earlier list x n
      earlier x n a h = ⊎_elim (λ e. absurd (false≢true e)) (λ e. e) (walk-earlier N nothing list w.walk x n a h).1

      by_edge : (x n : ℕ) → Among n list → edge nodes x n ≡ true → Earlier list x n
      by_edge x n a e = earlier x n a (or_left (edge nodes x n) (is_queued nodes n && (((node_at nodes x).queue == (node_at nodes n).queue) && nat_lt x n)) e)

  module _ (list : List ℕ) (O : Order nodes list) where
    earlier : (x n : ℕ) → Among n list → N.needs x n ≡ true → Earlier list x n
    earlier x n a h = ⊎_elim
        (λ e. O.forward x n a e)
        (λ e. let q = on_queue x n e in O.turns.queue x n a q.0 q.2 q.1)
        (or_cases (edge nodes x n) (is_queued nodes n && (((node_at nodes x).queue == (node_at nodes n).queue) && nat_lt x n)) h)

    walked : WholeWalk N list
    walked = record {
      walk = to_walk N list O.once (λ n a. (O.only n a, never_false (is_wait (node_at nodes n).kind) (meeting nodes (node_at nodes n).kind) (λ k. let m = O.turns.met n a k in (m.0, m.1)))) earlier;
      whole = λ n lt. placed-in list nothing n (O.all n lt);
    }

    below : (x n : ℕ) → n < length nodes → N.needs x n ≡ true → x < length nodes
    below x n lt h = O.only x (among_before list x n (earlier x n (O.all n lt) h))

  pub has_least : OrderGivesLeast nodes
  has_least list O =
      let found = least_walk N (below list O) list (walked list O) in
      (found.0, record { order = in_order found.0 found.1.order; least = λ other P. found.1.least other (walked other P) })
