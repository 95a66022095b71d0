-- The host reads after the queue nodes.
use Rattle.std.proofs.Common.{◌≡◌, ℕ, zero, suc, ◌+◌, ◌<◌, ◌≤◌, Bool, true, false, ◌||◌, ◌==◌, nat_lt, List, [], ◌∷◌, ◌++◌, refl, sym, ap, ◌∙◌, subst, ⊎_elim, eq-eqb, arith}
use Rattle.std.proofs.lemmas.Bool.{cases_lt, cases_eq, or_left, lt-ltb, le-ltb, ne_eqb}
use Rattle.std.specs.Prelude.{if◌then◌else◌}
use Rattle.std.specs.List.{range_with_len}
use Rattle.check_order.proofs.Steps.{Needs, add, nothing, Available, Walk, Greedy, placed_by, Whole, WholeWalk, LeastWalk, NoWalk, greedy-whole}
use Rattle.base.proofs.Booleans.{clash}

-- the needs of all nodes, where the first are the queue nodes and the others need queue nodes alone
pub record Wider (N M : Needs) : Type 0 where
  pub fewer : N.count ≤ M.count
  pub same : (x n : ℕ) → n < N.count → M.needs x n ≡ N.needs x n
  pub never : (n : ℕ) → n < N.count → M.never n ≡ N.never n
  pub free : (n : ℕ) → N.count ≤ n → M.never n ≡ false
  pub low : (x n : ℕ) → M.needs x n ≡ true → x < N.count

module _ (N M : Needs) (W : Wider N M) where
  up : (p : ℕ → Bool) (n : ℕ) → Available N p n → Available M p n
  up p n a = record { small = omega (arith, a.small, W.fewer); fresh = a.fresh; met = W.never n a.small ∙ a.met; after = λ x h. a.after x (sym (W.same x n a.small) ∙ h) }

  down : (p : ℕ → Bool) (n : ℕ) → n < N.count → Available M p n → Available N p n
  down p n lt a = record { small = lt; fresh = a.fresh; met = sym (W.never n lt) ∙ a.met; after = λ x h. a.after x (W.same x n lt ∙ h) }

  pub greedy-wide : (list : List ℕ) (p : ℕ → Bool) → Greedy N p list → Greedy M p list
  greedy-wide [] p g = tt
  greedy-wide (n ∷ rest) p g = (up p n g.0, least, greedy-wide rest (add p n) g.2)
    where
      least : (y : ℕ) → Available M p y → n ≤ y
      least y a = ⊎_elim (λ lt. g.1 y (down p y lt a)) (λ ge. omega (arith, g.0.small, ge)) (cases_lt y N.count)

  pub greedy-join : (list tail : List ℕ) (p : ℕ → Bool) → Greedy M p list → Greedy M (placed_by p list) tail → Greedy M p (list ++ tail)
  greedy-join [] tail p g t = t
  greedy-join (n ∷ rest) tail p g t = (g.0, g.1, greedy-join rest tail (add p n) g.2 t)

  placed-join : (list tail : List ℕ) (p : ℕ → Bool) → placed_by p (list ++ tail) ≡ placed_by (placed_by p list) tail
  placed-join [] tail p = refl
  placed-join (n ∷ rest) tail p = placed-join rest tail (add p n)

  more : (p : ℕ → Bool) (i : ℕ) → ((x : ℕ) → p x ≡ nat_lt x i) → (x : ℕ) → add p i x ≡ nat_lt x (i + 1)
  more p i h x = ⊎_elim
      (λ e. or_left (x == i) (p x) (eq-eqb x i e) ∙ sym (lt-ltb x (i + 1) (omega (arith, e))))
      (λ ne. ap (λ t. t || p x) (ne_eqb x i ne) ∙ h x ∙ ⊎_elim (λ l. lt-ltb x i l ∙ sym (lt-ltb x (i + 1) (omega (arith, l)))) (λ g. le-ltb x i g ∙ sym (le-ltb x (i + 1) (omega (arith, g, ne)))) (cases_lt x i))
      (cases_eq x i)

  hosts-greedy : (m i : ℕ) (p : ℕ → Bool) → N.count ≤ i → i + m ≡ M.count → ((x : ℕ) → p x ≡ nat_lt x i) → Greedy M p (range_with_len i m)
  hosts-greedy zero i p low e h = tt
  hosts-greedy (suc m) i p low e h = (here, least, hosts-greedy m (i + 1) (add p i) (omega (arith, low)) (omega (arith, e)) (more p i h))
    where
      here : Available M p i
      here = record { small = omega (arith, e); fresh = h i ∙ le-ltb i i (omega arith); met = W.free i low; after = λ x k. h x ∙ lt-ltb x i (omega (arith, W.low x i k, low)) }

      least : (y : ℕ) → Available M p y → i ≤ y
      least y a = ⊎_elim (λ l. absurd (clash (sym a.fresh ∙ h y ∙ lt-ltb y i l))) (λ g. g) (cases_lt y i)

  hosts-whole : (m i : ℕ) (p : ℕ → Bool) → ((x : ℕ) → p x ≡ nat_lt x i) → (x : ℕ) → x < i + m → placed_by p (range_with_len i m) x ≡ true
  hosts-whole zero i p h x lt = h x ∙ lt-ltb x i (omega (arith, lt))
  hosts-whole (suc m) i p h x lt = hosts-whole m (i + 1) (add p i) (more p i h) x (omega (arith, lt))

  -- the least order of the queue nodes, and then the host reads, is the least order of all nodes
  pub drain-all : (list : List ℕ) (m : ℕ) → N.count + m ≡ M.count → Greedy N nothing list → ((x : ℕ) → placed_by nothing list x ≡ nat_lt x N.count) → LeastWalk M (list ++ range_with_len N.count m)
  drain-all list m e g all = greedy-whole M (list ++ range_with_len N.count m)
      (greedy-join list (range_with_len N.count m) nothing (greedy-wide list nothing g) (hosts-greedy m N.count (placed_by nothing list) (omega arith) e all))
      (λ n lt. ap (λ q. q n) (placed-join list (range_with_len N.count m) nothing) ∙ hosts-whole m N.count (placed_by nothing list) all n (omega (arith, lt, e)))

  -- the queue nodes of a list
  abbrev pub only : List ℕ → List ℕ
  only [] = []
  only (x ∷ rest) = if nat_lt x N.count then x ∷ only rest else only rest

  abbrev pub Same : (ℕ → Bool) → (ℕ → Bool) → Type 0
  Same p q = (x : ℕ) → x < N.count → p x ≡ q x

  same-add : (p q : ℕ → Bool) (n : ℕ) → Same p q → Same (add p n) (add q n)
  same-add p q n s x lt = ap (λ t. (x == n) || t) (s x lt)

  same-skip : (p q : ℕ → Bool) (n : ℕ) → N.count ≤ n → Same p q → Same (add p n) q
  same-skip p q n ge s x lt = ap (λ t. t || p x) (ne_eqb x n (λ e. omega (arith, e, ge, lt))) ∙ s x lt

  walk-only : (list : List ℕ) (p q : ℕ → Bool) → Same p q → Walk M p list → Walk N q (only list)
  walk-only [] p q s f = tt
  walk-only (n ∷ rest) p q s f = ⊎_elim
      (λ lt. subst (λ l. Walk N q l) (sym (ap (λ t. if t then n ∷ only rest else only rest) (lt-ltb n N.count lt))) (here lt, walk-only rest (add p n) (add q n) (same-add p q n s) f.1))
      (λ ge. subst (λ l. Walk N q l) (sym (ap (λ t. if t then n ∷ only rest else only rest) (le-ltb n N.count ge))) (walk-only rest (add p n) q (same-skip p q n ge s) f.1))
      (cases_lt n N.count)
    where
      here : n < N.count → Available N q n
      here lt = record { small = lt; fresh = sym (s n lt) ∙ f.0.fresh; met = sym (W.never n lt) ∙ f.0.met; after = λ x h. let k = W.same x n lt ∙ h in sym (s x (W.low x n k)) ∙ f.0.after x k }

  placed-only : (list : List ℕ) (p q : ℕ → Bool) → Same p q → (x : ℕ) → x < N.count → placed_by p list x ≡ placed_by q (only list) x
  placed-only [] p q s x lt = s x lt
  placed-only (n ∷ rest) p q s x lt = ⊎_elim
      (λ l. placed-only rest (add p n) (add q n) (same-add p q n s) x lt ∙ ap (λ t. placed_by q (if t then n ∷ only rest else only rest) x) (sym (lt-ltb n N.count l)))
      (λ g. placed-only rest (add p n) q (same-skip p q n g s) x lt ∙ ap (λ t. placed_by q (if t then n ∷ only rest else only rest) x) (sym (le-ltb n N.count g)))
      (cases_lt n N.count)

  -- where the queue nodes are stuck, all nodes have no order
  pub none-all : (n : ℕ) → NoWalk N n → (other : List ℕ) → WholeWalk M other → ⊥
  none-all n S other O = S.none (only other) (record { walk = walk-only other nothing nothing (λ x lt. refl) O.walk; whole = λ x lt. sym (placed-only other nothing nothing (λ y l. refl) x lt) ∙ O.whole x (omega (arith, lt, W.fewer)) })

  placed-low : (list : List ℕ) (p : ℕ → Bool) → Greedy N p list → (x : ℕ) → N.count ≤ x → p x ≡ false → placed_by p list x ≡ false
  placed-low [] p g x ge h = h
  placed-low (n ∷ rest) p g x ge h = placed-low rest (add p n) g.2 x ge (ap (λ t. t || p x) (ne_eqb x n (λ e. omega (arith, e, ge, g.0.small))) ∙ h)

  -- the answer for all nodes, from a whole greedy list of the queue nodes
  pub drain-whole : (list : List ℕ) (m : ℕ) → N.count + m ≡ M.count → Greedy N nothing list → Whole N nothing list → LeastWalk M (list ++ range_with_len N.count m)
  drain-whole list m e g w = drain-all list m e g (λ x. ⊎_elim (λ l. w x l ∙ sym (lt-ltb x N.count l)) (λ ge. placed-low list nothing g x ge refl ∙ sym (le-ltb x N.count ge)) (cases_lt x N.count))
