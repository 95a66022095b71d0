-- The greedy order, one node more.
use Rattle.std.proofs.Common.{◌≡◌, ◌⊎◌, inl, inr, ℕ, zero, suc, ◌+◌, ◌-◌, ◌<◌, ◌≤◌, Bool, true, false, ◌||◌, ◌&&◌, ◌==◌, nat_lt, not, Option, Some, None, is_none, List, [], ◌∷◌, ◌++◌, length, get_or, slice_set, length-set, get_or-set_same, get_or-set_other, refl, sym, ap, ◌∙◌, subst, ⊎_elim, eq-eqb, eqb-true, arith}
use Rattle.std.proofs.lemmas.Bool.{cases_lt, cases_eq, cases_Bool, and_parts, and_from, or_cases, or_left, or_right, or_parts, ltb-true, ltb-false, lt-ltb, le-ltb, ne_eqb}
use Rattle.base.proofs.Absence.{none_some}
use Rattle.base.proofs.Booleans.{clash}
use Rattle.check_order.specs.Edges.{is_at}
use Rattle.check_order.proofs.Steps.{Needs, add, nothing, Available, Greedy, placed_by, LeastWalk, NoWalk, greedy-whole, greedy-stuck}
use Rattle.check_order.specs.Internal.Queues.{Queues, Numbered, taken, is_open, goes_on, left_of}
use Rattle.check_order.proofs.Queues.{needs_of}

-- each queue's next node, and the nodes that have been taken
pub record Going (Q : Queues) (queues count : ℕ) (next list : List ℕ) : Type 0 where
  pub size : length next ≡ queues
  pub greedy : Greedy (needs_of Q count) nothing list
  pub placed : (n : ℕ) → n < count → placed_by nothing list n ≡ nat_lt n (get_or next (Q.queue n) 0)
  pub low : (q : ℕ) → q < queues → Q.start q ≤ get_or next q 0
  pub high : (q : ℕ) → q < queues → get_or next q 0 ≤ Q.start (q + 1)

placed-more : (list : List ℕ) (p : ℕ → Bool) (n x : ℕ) → placed_by p (list ++ n ∷ []) x ≡ ((x == n) || placed_by p list x)
placed-more [] p n x = refl
placed-more (y ∷ rest) p n x = placed-more rest (add p y) n x

greedy-more : (N : Needs) (list : List ℕ) (p : ℕ → Bool) (n : ℕ) → Greedy N p list → Available N (placed_by p list) n → ((y : ℕ) → Available N (placed_by p list) y → n ≤ y) → Greedy N p (list ++ n ∷ [])
greedy-more N [] p n g a l = (a, l, tt)
greedy-more N (x ∷ rest) p n g a l = (g.0, g.1, greedy-more N rest (add p x) n g.2 a l)

module _ (Q : Queues) (queues count : ℕ) (M : Numbered Q queues count) (next list : List ℕ) (G : Going Q queues count next list) where
  at : ℕ → ℕ
  at q = get_or next q 0

  below : (q : ℕ) → q < queues → Q.start (q + 1) ≤ count
  below q lt = subst (λ n. Q.start (q + 1) ≤ n) M.last (M.rising (q + 1) queues (omega (arith, lt)) (omega arith))

  -- an available node is the next one of its queue, which goes on
  goes : (y : ℕ) → Available (needs_of Q count) (placed_by nothing list) y → (y ≡ get_or next (Q.queue y) 0) × (goes_on Q next (Q.queue y) ≡ true)
  goes y a = (is, and_from (nat_lt (get_or next (Q.queue y) 0) (Q.start (Q.queue y + 1))) (is_open Q next (get_or next (Q.queue y) 0)) (lt-ltb (get_or next (Q.queue y) 0) (Q.start (Q.queue y + 1)) (subst (λ n. n < Q.start (Q.queue y + 1)) is w.2)) (subst (λ n. is_open Q next n ≡ true) is opened))
    where
      w : (Q.queue y < queues) × (Q.start (Q.queue y) ≤ y) × (y < Q.start (Q.queue y + 1))
      w = M.within y a.small

      later : get_or next (Q.queue y) 0 ≤ y
      later = ltb-false y (get_or next (Q.queue y) 0) (sym (G.placed y a.small) ∙ a.fresh)

      none : get_or next (Q.queue y) 0 < y → ⊥
      none lt =
          let x : ℕ = get_or next (Q.queue y) 0 in
          let same : Q.queue x ≡ Q.queue y = M.only x (Q.queue y) w.0 (G.low (Q.queue y) w.0) (omega (arith, lt, w.2)) in
          let there = a.after x (or_left ((Q.queue x == Q.queue y) && nat_lt x y) (is_at (Q.met y) x) (and_from (Q.queue x == Q.queue y) (nat_lt x y) (eq-eqb (Q.queue x) (Q.queue y) same) (lt-ltb x y lt))) in
          let e = sym (G.placed x (omega (arith, lt, a.small))) ∙ there in
          let f : x < x = subst (λ q. x < get_or next q 0) same (ltb-true x (get_or next (Q.queue x) 0) e) in
          omega (arith, f)

      is : y ≡ get_or next (Q.queue y) 0
      is = ⊎_elim (λ lt. absurd (none lt)) (λ ge. omega (arith, ge, later)) (cases_lt (get_or next (Q.queue y) 0) y)

      opened : is_open Q next y ≡ true
      opened = go (Q.waits y) refl
        where
          go : (t : Bool) → Q.waits y ≡ t → is_open Q next y ≡ true
          go false e = or_left (not (Q.waits y)) (taken Q.queue next (Q.met y)) (ap (λ t. not t) e)
          go true e = found (Q.met y) refl
            where
              found : (o : Option ℕ) → Q.met y ≡ o → is_open Q next y ≡ true
              found None m = absurd (clash (sym a.met ∙ and_from (Q.waits y) (is_none (Q.met y)) e (ap (λ o. is_none o) m)))
              found (Some x) m =
                  let there = a.after x (or_right ((Q.queue x == Q.queue y) && nat_lt x y) (is_at (Q.met y) x) (ap (λ o. is_at o x) m ∙ eq-eqb x x refl)) in
                  or_right (not (Q.waits y)) (taken Q.queue next (Q.met y)) (ap (λ o. taken Q.queue next o) m ∙ sym (G.placed x (M.meets y x m)) ∙ there)

  pub dry : ((q : ℕ) → q < queues → goes_on Q next q ≡ false) → (y : ℕ) → Available (needs_of Q count) (placed_by nothing list) y → ⊥
  dry none y a = clash (sym (none (Q.queue y) (M.within y a.small).0) ∙ (goes y a).1)

  module _ (q : ℕ) (lt : q < queues) (go_on : goes_on Q next q ≡ true) where
    inside : (get_or next q 0 < Q.start (q + 1)) × (is_open Q next (get_or next q 0) ≡ true)
    inside = let p = and_parts (nat_lt (get_or next q 0) (Q.start (q + 1))) (is_open Q next (get_or next q 0)) go_on in (ltb-true (get_or next q 0) (Q.start (q + 1)) p.0, p.1)

    mine : Q.queue (get_or next q 0) ≡ q
    mine = M.only (get_or next q 0) q lt (G.low q lt) inside.0

    small : get_or next q 0 < count
    small = omega (arith, inside.0, below q lt)

    met_taken : (x : ℕ) → Q.met (get_or next q 0) ≡ Some x → placed_by nothing list x ≡ true
    met_taken x m =
        let n : ℕ = get_or next q 0 in
        G.placed x (M.meets n x m) ∙ ⊎_elim
        (λ h. absurd (none_some (sym (M.idle n (not_true (Q.waits n) h)) ∙ m)))
        (λ h. sym (ap (λ o. taken Q.queue next o) m) ∙ h)
        (or_cases (not (Q.waits n)) (taken Q.queue next (Q.met n)) inside.1)
      where
        not_true : (b : Bool) → not b ≡ true → b ≡ false
        not_true false e = refl
        not_true true e = absurd (clash e)

    available : Available (needs_of Q count) (placed_by nothing list) (get_or next q 0)
    available = record {
      small = small;
      fresh = G.placed (get_or next q 0) small ∙ le-ltb (get_or next q 0) (get_or next (Q.queue (get_or next q 0)) 0) (subst (λ r. get_or next r 0 ≤ get_or next q 0) (sym mine) (omega arith));
      met = ⊎_elim
          (λ h. ap (λ t. t && is_none (Q.met (get_or next q 0))) (not_true (Q.waits (get_or next q 0)) h))
          (λ h. some (Q.met (get_or next q 0)) refl h)
          (or_cases (not (Q.waits (get_or next q 0))) (taken Q.queue next (Q.met (get_or next q 0))) inside.1);
      after = after;
    }
      where
        not_true : (b : Bool) → not b ≡ true → b ≡ false
        not_true false e = refl
        not_true true e = absurd (clash e)

        and_false : (b : Bool) → (b && false) ≡ false
        and_false false = refl
        and_false true = refl

        some : (o : Option ℕ) → Q.met (get_or next q 0) ≡ o → taken Q.queue next (Q.met (get_or next q 0)) ≡ true → (Q.waits (get_or next q 0) && is_none (Q.met (get_or next q 0))) ≡ false
        some None m h = absurd (clash (sym (ap (λ o. taken Q.queue next o) m) ∙ h))
        some (Some x) m h = ap (λ o. Q.waits (get_or next q 0) && is_none o) m ∙ and_false (Q.waits (get_or next q 0))

        after : (x : ℕ) → (((Q.queue x == Q.queue (get_or next q 0)) && nat_lt x (get_or next q 0)) || is_at (Q.met (get_or next q 0)) x) ≡ true → placed_by nothing list x ≡ true
        after x h = ⊎_elim
            (λ k.
            let p = and_parts (Q.queue x == Q.queue (get_or next q 0)) (nat_lt x (get_or next q 0)) k in
            let s : Q.queue x ≡ q = eqb-true (Q.queue x) (Q.queue (get_or next q 0)) p.0 ∙ mine in
            let l : x < get_or next q 0 = ltb-true x (get_or next q 0) p.1 in
            G.placed x (omega (arith, l, small)) ∙ lt-ltb x (get_or next (Q.queue x) 0) (subst (λ r. x < get_or next r 0) (sym s) l))
            (λ k. met_at (Q.met (get_or next q 0)) refl k)
            (or_cases ((Q.queue x == Q.queue (get_or next q 0)) && nat_lt x (get_or next q 0)) (is_at (Q.met (get_or next q 0)) x) h)
          where
            met_at : (o : Option ℕ) → Q.met (get_or next q 0) ≡ o → is_at (Q.met (get_or next q 0)) x ≡ true → placed_by nothing list x ≡ true
            met_at None m k = absurd (clash (sym (ap (λ o. is_at o x) m) ∙ k))
            met_at (Some z) m k = subst (λ z. placed_by nothing list z ≡ true) (eqb-true z x (sym (ap (λ o. is_at o x) m) ∙ k)) (met_taken z m)

    least : ((r : ℕ) → r < q → goes_on Q next r ≡ false) → (y : ℕ) → Available (needs_of Q count) (placed_by nothing list) y → get_or next q 0 ≤ y
    least first y a = go (cases_lt (Q.queue y) q)
      where
        g : (y ≡ get_or next (Q.queue y) 0) × (goes_on Q next (Q.queue y) ≡ true)
        g = goes y a

        w : (Q.queue y < queues) × (Q.start (Q.queue y) ≤ y) × (y < Q.start (Q.queue y + 1))
        w = M.within y a.small

        go : (Q.queue y < q) ⊎ (q ≤ Q.queue y) → get_or next q 0 ≤ y
        go (inl h) = absurd (clash (sym (first (Q.queue y) h) ∙ g.1))
        go (inr h) = ⊎_elim
            (λ e. let s : y ≡ get_or next q 0 = subst (λ r. y ≡ get_or next r 0) (sym e) g.0 in omega (arith, s))
            (λ ne. let r = M.rising (q + 1) (Q.queue y) (omega (arith, h, ne)) (omega (arith, w.0)) in omega (arith, inside.0, r, w.1))
            (cases_eq q (Q.queue y))

    pub going-more : ((r : ℕ) → r < q → goes_on Q next r ≡ false) → Going Q queues count (slice_set next q (get_or next q 0 + 1)) (list ++ get_or next q 0 ∷ [])
    going-more first = record {
      size = length-set next q (get_or next q 0 + 1) ∙ G.size;
      greedy = greedy-more (needs_of Q count) list nothing (get_or next q 0) G.greedy available (least first);
      placed = placed;
      low = λ r h. each r (λ n. Q.start r ≤ n) (λ e. omega (arith, G.low r h, ap (λ z. get_or next z 0) e)) (G.low r h);
      high = λ r h. each r (λ n. n ≤ Q.start (r + 1)) (λ e. let s : Q.start (q + 1) ≡ Q.start (r + 1) = ap (λ z. Q.start (z + 1)) (sym e) in omega (arith, inside.0, s)) (G.high r h);
    }
      where
        n : ℕ
        n = get_or next q 0

        here : get_or (slice_set next q (n + 1)) q 0 ≡ n + 1
        here = get_or-set_same next q (n + 1) 0 (omega (arith, lt, G.size))

        each : (r : ℕ) (A : ℕ → Type 0) → (r ≡ q → A (n + 1)) → A (get_or next r 0) → A (get_or (slice_set next q (n + 1)) r 0)
        each r A f old = ⊎_elim (λ e. subst A (sym (ap (λ z. get_or (slice_set next q (n + 1)) z 0) e ∙ here)) (f e)) (λ ne. subst A (sym (get_or-set_other next q r (n + 1) 0 ne)) old) (cases_eq r q)

        up : (x : ℕ) → ((x == n) || nat_lt x n) ≡ nat_lt x (n + 1)
        up x = ⊎_elim
            (λ h. sym (lt-ltb x (n + 1) (⊎_elim (λ e. omega (arith, eqb-true x n e)) (λ l. omega (arith, ltb-true x n l)) (or_cases (x == n) (nat_lt x n) h)) ∙ sym h))
            (λ h. let p = or_parts (x == n) (nat_lt x n) h in h ∙ sym (⊎_elim (λ l. absurd (clash (sym h ∙ low_or x l))) (λ g. le-ltb x (n + 1) g) (cases_lt x (n + 1))))
            (cases_Bool ((x == n) || nat_lt x n))
          where
            low_or : (x : ℕ) → x < n + 1 → ((x == n) || nat_lt x n) ≡ true
            low_or x l = ⊎_elim (λ e. or_left (x == n) (nat_lt x n) (eq-eqb x n e)) (λ ne. or_right (x == n) (nat_lt x n) (lt-ltb x n (omega (arith, l, ne)))) (cases_eq x n)

        placed : (x : ℕ) → x < count → placed_by nothing (list ++ n ∷ []) x ≡ nat_lt x (get_or (slice_set next q (n + 1)) (Q.queue x) 0)
        placed x h = placed-more list nothing n x ∙ ap (λ t. (x == n) || t) (G.placed x h) ∙ ⊎_elim
            (λ e. ap (λ r. (x == n) || nat_lt x (get_or next r 0)) e ∙ up x ∙ sym (ap (λ r. nat_lt x (get_or (slice_set next q (n + 1)) r 0)) e ∙ ap (λ m. nat_lt x m) here))
            (λ ne. ap (λ t. t || nat_lt x (get_or next (Q.queue x) 0)) (ne_eqb x n (λ e. ne (ap (λ z. Q.queue z) e ∙ mine))) ∙ sym (ap (λ m. nat_lt x m) (get_or-set_other next q (Q.queue x) (n + 1) 0 ne)))
            (cases_eq (Q.queue x) q)

  pub whole : ((q : ℕ) → q < queues → Q.start (q + 1) ≤ get_or next q 0) → LeastWalk (needs_of Q count) list
  whole ends = greedy-whole (needs_of Q count) list G.greedy (λ n h. let w = M.within n h in G.placed n h ∙ lt-ltb n (get_or next (Q.queue n) 0) (omega (arith, w.2, ends (Q.queue n) w.0)))

  pub stuck : ((q : ℕ) → q < queues → goes_on Q next q ≡ false) → (q : ℕ) → q < queues → ((r : ℕ) → r < q → Q.start (r + 1) ≤ get_or next r 0) → get_or next q 0 < Q.start (q + 1) → NoWalk (needs_of Q count) (get_or next q 0) × (Q.queue (get_or next q 0) ≡ q)
  stuck none q lt before left = (greedy-stuck (needs_of Q count) list (get_or next q 0) G.greedy (dry none) fits out under, mine)
    where
      mine : Q.queue (get_or next q 0) ≡ q
      mine = M.only (get_or next q 0) q lt (G.low q lt) left

      fits : get_or next q 0 < count
      fits = omega (arith, left, below q lt)

      out : placed_by nothing list (get_or next q 0) ≡ false
      out = G.placed (get_or next q 0) fits ∙ le-ltb (get_or next q 0) (get_or next (Q.queue (get_or next q 0)) 0) (subst (λ r. get_or next r 0 ≤ get_or next q 0) (sym mine) (omega arith))

      under : (x : ℕ) → x < get_or next q 0 → placed_by nothing list x ≡ true
      under x h =
          let s : x < count = omega (arith, h, fits) in
          let w = M.within x s in
          G.placed x s ∙ lt-ltb x (get_or next (Q.queue x) 0) (⊎_elim
          (λ l. omega (arith, before (Q.queue x) l, w.2))
          (λ g. ⊎_elim (λ e. subst (λ r. x < get_or next r 0) e h) (λ ne. absurd (let r = M.rising (q + 1) (Q.queue x) (omega (arith, g, ne)) (omega (arith, w.0)) in omega (arith, r, w.1, h, left))) (cases_eq q (Q.queue x)))
          (cases_lt (Q.queue x) q))

-- the next node of a queue is taken: fewer are left
pub left-less : (Q : Queues) (next : List ℕ) (q k : ℕ) → q < k → q < length next → get_or next q 0 < Q.start (q + 1) → left_of Q (slice_set next q (get_or next q 0 + 1)) k < left_of Q next k
left-less Q next q zero lt size less = absurd (omega (arith, lt))
left-less Q next q (suc k) lt size less = ⊎_elim
    (λ (e : q ≡ k).
    let here : get_or (slice_set next q (get_or next q 0 + 1)) k 0 ≡ get_or next k 0 + 1 = subst (λ z. get_or (slice_set next q (get_or next q 0 + 1)) z 0 ≡ get_or next z 0 + 1) e (get_or-set_same next q (get_or next q 0 + 1) 0 size) in
    let there = left-same Q next q (get_or next q 0 + 1) k (omega (arith, e)) in
    let l : get_or next k 0 < Q.start (k + 1) = subst (λ z. get_or next z 0 < Q.start (z + 1)) e less in
    omega (arith, here, there, l))
    (λ ne.
    let less_k : q < k = omega (arith, lt, ne) in
    let other = get_or-set_other next q k (get_or next q 0 + 1) 0 (λ e. ne (sym e)) in
    let ih = left-less Q next q k less_k size less in
    omega (arith, other, ih))
    (cases_eq q k)
  where
    left-same : (Q : Queues) (next : List ℕ) (q v k : ℕ) → k ≤ q → left_of Q (slice_set next q v) k ≡ left_of Q next k
    left-same Q next q v zero le = refl
    left-same Q next q v (suc k) le =
        let other : get_or (slice_set next q v) k 0 ≡ get_or next k 0 = get_or-set_other next q k v 0 (λ e. omega (arith, le, e)) in
        ap (λ n. (Q.start (k + 1) - n) + left_of Q (slice_set next q v) k) other ∙ ap (λ m. (Q.start (k + 1) - get_or next k 0) + m) (left-same Q next q v k (omega (arith, le)))

-- what an index gives, under the default 0
pub at_index : (list : List ℕ) (i v : ℕ) → i < length list → v ≡ get_or list i v → v ≡ get_or list i 0
at_index list i v lt e = e ∙ any_default list i v 0 lt
  where
    any_default : (list : List ℕ) (i d e : ℕ) → i < length list → get_or list i d ≡ get_or list i e
    any_default [] i d e h = absurd (omega (arith, h))
    any_default (x ∷ rest) zero d e h = refl
    any_default (x ∷ rest) (suc i) d e h = any_default rest i d e (omega (arith, h))

pub going-step : (Q : Queues) (queues count : ℕ) (M : Numbered Q queues count) (next list : List ℕ) (G : Going Q queues count next list) (q : ℕ) → (q < queues) × (goes_on Q next q ≡ true) → ((r : ℕ) → r < q → goes_on Q next r ≡ false) → (v w : ℕ) (more : List ℕ) → v ≡ get_or next q v → w ≡ get_or next q w → more ≡ list ++ v ∷ [] → Going Q queues count (slice_set next q (w + 1)) more
going-step Q queues count M next list G q on first v w more e f g =
    let size : q < length next = omega (arith, on.0, G.size) in
    subst (λ l. Going Q queues count (slice_set next q (w + 1)) l) (ap (λ z. list ++ z ∷ []) (sym (at_index next q v size e)) ∙ sym g)
    (subst (λ z. Going Q queues count (slice_set next q (z + 1)) (list ++ get_or next q 0 ∷ [])) (sym (at_index next q w size f)) (going-more Q queues count M next list G q on.0 on.1 first))

pub left-step : (Q : Queues) (queues count : ℕ) (next list : List ℕ) (G : Going Q queues count next list) (q : ℕ) → (q < queues) × (goes_on Q next q ≡ true) → (w : ℕ) → w ≡ get_or next q w → left_of Q (slice_set next q (w + 1)) queues < left_of Q next queues
left-step Q queues count next list G q on w f =
    let size : q < length next = omega (arith, on.0, G.size) in
    let p = and_parts (nat_lt (get_or next q 0) (Q.start (q + 1))) (is_open Q next (get_or next q 0)) on.1 in
    subst (λ z. left_of Q (slice_set next q (z + 1)) queues < left_of Q next queues) (sym (at_index next q w size f)) (left-less Q next q queues on.0 size (ltb-true (get_or next q 0) (Q.start (q + 1)) p.0))

pub stuck-at : (Q : Queues) (queues count : ℕ) (M : Numbered Q queues count) (next list : List ℕ) (G : Going Q queues count next list) → ((q : ℕ) → q < queues → goes_on Q next q ≡ false) → (q v : ℕ) → ((r : ℕ) → r < q → Q.start (r + 1) ≤ get_or next r 0) → (q < queues) × (get_or next q 0 < Q.start (q + 1)) → v ≡ get_or next q v → NoWalk (needs_of Q count) v × (Q.queue v ≡ q)
stuck-at Q queues count M next list G none q v before left e = subst (λ z. NoWalk (needs_of Q count) z × (Q.queue z ≡ q)) (sym (at_index next q v (omega (arith, left.0, G.size)) e)) (stuck Q queues count M next list G none q left.0 before left.1)
