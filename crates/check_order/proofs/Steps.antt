-- Lists of numbers taken one by one, each after all that it needs.
use Rattle.std.proofs.Common.{◌≡◌, ◌⊎◌, inl, inr, ℕ, ◌<◌, ◌≤◌, Bool, true, false, ◌||◌, ◌==◌, List, [], ◌∷◌, refl, sym, ap, ◌∙◌, subst, ⊎_elim, eq-eqb, ne_eqb, eqb-true, cond, arith}
use Rattle.std.proofs.lemmas.Bool.{cases_eq, cases_Bool, false≢true, or_cases, or_left, or_right, or_parts}
use Rattle.check_order.specs.Orders.{Among, Distinct, before_in, NotAbove}

-- needs x n: x has to stand before n; never n: n can never be placed, as a wait that no signal meets
pub record Needs : Type 0 where
  pub count : ℕ
  pub needs : ℕ → ℕ → Bool
  pub never : ℕ → Bool

abbrev pub add : (ℕ → Bool) → ℕ → ℕ → Bool
add placed x y = (y == x) || placed y

abbrev pub nothing : ℕ → Bool
nothing x = false

-- n may come next
pub record Available (N : Needs) (placed : ℕ → Bool) (n : ℕ) : Type 0 where
  pub small : n < N.count
  pub fresh : placed n ≡ false
  pub met : N.never n ≡ false
  pub after : (x : ℕ) → N.needs x n ≡ true → placed x ≡ true

-- the numbers of the list may come one after another
abbrev pub Walk : Needs → (ℕ → Bool) → List ℕ → Type 0
Walk N placed [] = Unit {0}
Walk N placed (n ∷ rest) = Available N placed n × Walk N (add placed n) rest

-- the same, always the least number that may come next
abbrev pub Greedy : Needs → (ℕ → Bool) → List ℕ → Type 0
Greedy N placed [] = Unit {0}
Greedy N placed (n ∷ rest) = Available N placed n × ((y : ℕ) → Available N placed y → n ≤ y) × Greedy N (add placed n) rest

abbrev pub placed_by : (ℕ → Bool) → List ℕ → ℕ → Bool
placed_by placed [] = placed
placed_by placed (n ∷ rest) = placed_by (add placed n) rest

abbrev pub Whole : Needs → (ℕ → Bool) → List ℕ → Type 0
Whole N placed list = (n : ℕ) → n < N.count → placed_by placed list n ≡ true

-- a walk through all numbers
pub record WholeWalk (N : Needs) (list : List ℕ) : Type 0 where
  pub walk : Walk N nothing list
  pub whole : Whole N nothing list

pub record LeastWalk (N : Needs) (list : List ℕ) : Type 0 where
  pub order : WholeWalk N list
  pub least : (other : List ℕ) → WholeWalk N other → NotAbove list other

-- no walk goes through all numbers, and n is the least number that is in no walk
pub record NoWalk (N : Needs) (n : ℕ) : Type 0 where
  pub none : (other : List ℕ) → WholeWalk N other → ⊥
  pub small : n < N.count
  pub in_none : (walk : List ℕ) → Walk N nothing walk → Among n walk → ⊥
  pub below : (x : ℕ) → x < n → (walk : List ℕ) × Walk N nothing walk × Among x walk

add-self : (p : ℕ → Bool) (x : ℕ) → add p x x ≡ true
add-self p x = or_left (x == x) (p x) (eq-eqb x x refl)

add-old : (p : ℕ → Bool) (x y : ℕ) → p y ≡ true → add p x y ≡ true
add-old p x y h = or_right (y == x) (p y) h

add-split : (p : ℕ → Bool) (x y : ℕ) → add p x y ≡ true → (y ≡ x) ⊎ (p y ≡ true)
add-split p x y h = ⊎_elim (λ e. inl (eqb-true y x e)) (λ e. inr e) (or_cases (y == x) (p y) h)

pub placed-old : (list : List ℕ) (p : ℕ → Bool) (x : ℕ) → p x ≡ true → placed_by p list x ≡ true
placed-old [] p x h = h
placed-old (n ∷ rest) p x h = placed-old rest (add p n) x (add-old p n x h)

pub placed-in : (list : List ℕ) (p : ℕ → Bool) (x : ℕ) → Among x list → placed_by p list x ≡ true
placed-in [] p x h = absurd h
placed-in (n ∷ rest) p x h = ⊎_elim (λ e. placed-old rest (add p n) x (subst (λ z. add p n z ≡ true) (sym e) (add-self p n))) (λ e. placed-in rest (add p n) x e) h

pub placed-split : (list : List ℕ) (p : ℕ → Bool) (x : ℕ) → placed_by p list x ≡ true → (p x ≡ true) ⊎ Among x list
placed-split [] p x h = inl h
placed-split (n ∷ rest) p x h = ⊎_elim (λ e. ⊎_elim (λ q. inr (inl q)) (λ q. inl q) (add-split p n x e)) (λ e. inr (inr e)) (placed-split rest (add p n) x h)

pub greedy-walk : (N : Needs) (p : ℕ → Bool) (list : List ℕ) → Greedy N p list → Walk N p list
greedy-walk N p [] g = tt
greedy-walk N p (n ∷ rest) g = (g.0, greedy-walk N (add p n) rest g.2)

least_more : (x y : ℕ) (xs ys : List ℕ) → x ≤ y → (x ≡ y → NotAbove xs ys) → (x < y) ⊎ ((x ≡ y) × NotAbove xs ys)
least_more x y xs ys le f = ⊎_elim (λ e. inr (e, f e)) (λ e. inl (below e)) (cases_eq x y)
  where
    below : (x ≡ y → ⊥) → x < y
    below ne = omega arith

-- the greedy list is not above any list that places all nodes
pub greedy-least : (N : Needs) (p : ℕ → Bool) (list other : List ℕ) → Greedy N p list → Walk N p other → Whole N p other → NotAbove list other
greedy-least N p [] other g f w = tt
greedy-least N p (x ∷ xs) [] g f w = false≢true (sym (g.0.fresh) ∙ w x g.0.small)
greedy-least N p (x ∷ xs) (y ∷ ys) g f w = least_more x y xs ys (g.1 y f.0) (λ e. greedy-least N (add p x) xs ys g.2 (subst (λ z. Walk N (add p z) ys) (sym e) f.1) (subst (λ z. Whole N (add p z) ys) (sym e) w))

-- where nothing may come next, each walk is placed
pub stuck-walk : (N : Needs) (p q : ℕ → Bool) (list : List ℕ) → ((x : ℕ) → p x ≡ true → q x ≡ true) → ((y : ℕ) → Available N q y → ⊥) → Walk N p list → (x : ℕ) → Among x list → q x ≡ true
stuck-walk N p q [] up dry f x h = absurd h
stuck-walk N p q (n ∷ rest) up dry f x h = ⊎_elim (λ e. subst (λ z. q z ≡ true) (sym e) here) (λ e. stuck-walk N (add p n) q rest more dry f.1 x e) h
  where
    here : q n ≡ true
    here = ⊎_elim (λ e. e) (λ e. absurd (dry n (record { small = f.0.small; fresh = e; met = f.0.met; after = λ y k. up y (f.0.after y k) }))) (cases_Bool (q n))

    more : (y : ℕ) → add p n y ≡ true → q y ≡ true
    more y k = ⊎_elim (λ e. subst (λ z. q z ≡ true) (sym e) here) (λ e. up y e) (add-split p n y k)

-- a whole greedy list is the least order
pub greedy-whole : (N : Needs) (list : List ℕ) → Greedy N nothing list → Whole N nothing list → LeastWalk N list
greedy-whole N list g w = record { order = record { walk = greedy-walk N nothing list g; whole = w }; least = λ other o. greedy-least N nothing list other g o.walk o.whole }

-- a greedy list that stops before n, the least node that is left
pub greedy-stuck : (N : Needs) (list : List ℕ) (n : ℕ) → Greedy N nothing list → ((y : ℕ) → Available N (placed_by nothing list) y → ⊥) → n < N.count → placed_by nothing list n ≡ false → ((x : ℕ) → x < n → placed_by nothing list x ≡ true) → NoWalk N n
greedy-stuck N list n g dry lt left least =
    record {
      none = λ other o. out other o.walk (⊎_elim (λ e. absurd (false≢true e)) (λ e. e) (placed-split other nothing n (o.whole n lt)));
      small = lt;
      in_none = out;
      below = λ x k. (list, greedy-walk N nothing list g, ⊎_elim (λ e. absurd (false≢true e)) (λ e. e) (placed-split list nothing x (least x k)));
    }
  where
    out : (walk : List ℕ) → Walk N nothing walk → Among n walk → ⊥
    out walk f h = false≢true (sym left ∙ stuck-walk N nothing (placed_by nothing list) walk (λ x e. absurd (false≢true e)) dry f n h)

walk_more : (N : Needs) (p : ℕ → Bool) (u : ℕ) (rest : List ℕ) → Walk N p (u ∷ rest) → (x n : ℕ) → (n ≡ u) ⊎ Among n rest → N.needs x n ≡ true → (Among n rest → (add p u n ≡ false) × ((add p u x ≡ true) ⊎ Among x (before_in rest n))) → (u ≡ n) ⊎ (u ≡ n → ⊥) → (p n ≡ false) × ((p x ≡ true) ⊎ Among x (before_in (u ∷ rest) n))
walk_more N p u rest f x n h k ih (inl e) = (subst (λ z. p z ≡ false) e f.0.fresh, inl (f.0.after x (subst (λ z. N.needs x z ≡ true) (sym e) k)))
walk_more N p u rest f x n (inl q) k ih (inr e) = absurd (e (sym q))
walk_more N p u rest f x n (inr q) k ih (inr e) =
    let r = ih q in
    let same : before_in (u ∷ rest) n ≡ u ∷ before_in rest n = ap (λ z. cond z [] (u ∷ before_in rest n)) (ne_eqb u n e) in
    ((or_parts (n == u) (p n) r.0).1, ⊎_elim (λ a. ⊎_elim (λ b. inr (subst (λ l. Among x l) (sym same) (inl b))) (λ b. inl b) (add-split p u x a)) (λ a. inr (subst (λ l. Among x l) (sym same) (inr a))) r.1)

-- what a node of a walk needs stands before it
pub walk-earlier : (N : Needs) (p : ℕ → Bool) (list : List ℕ) → Walk N p list → (x n : ℕ) → Among n list → N.needs x n ≡ true → (p n ≡ false) × ((p x ≡ true) ⊎ Among x (before_in list n))
walk-earlier N p [] f x n h k = absurd h
walk-earlier N p (u ∷ rest) f x n h k = walk_more N p u rest f x n h k (λ e. walk-earlier N (add p u) rest f.1 x n e k) (cases_eq u n)

walk-distinct : (N : Needs) (p : ℕ → Bool) (list : List ℕ) → Walk N p list → (n : ℕ) → Among n list → p n ≡ false
walk-distinct N p [] f n h = absurd h
walk-distinct N p (u ∷ rest) f n h = ⊎_elim (λ e. subst (λ z. p z ≡ false) (sym e) f.0.fresh) (λ e. (or_parts (n == u) (p n) (walk-distinct N (add p u) rest f.1 n e)).1) h

pub walk-once : (N : Needs) (p : ℕ → Bool) (list : List ℕ) → Walk N p list → Distinct list
walk-once N p [] f = tt
walk-once N p (u ∷ rest) f = ((λ h. false≢true (sym (walk-distinct N (add p u) rest f.1 u h) ∙ add-self p u)), walk-once N (add p u) rest f.1)

pub walk-met : (N : Needs) (p : ℕ → Bool) (list : List ℕ) → Walk N p list → (n : ℕ) → Among n list → N.never n ≡ false
walk-met N p [] f n h = absurd h
walk-met N p (u ∷ rest) f n h = ⊎_elim (λ e. subst (λ z. N.never z ≡ false) (sym e) f.0.met) (λ e. walk-met N (add p u) rest f.1 n e) h

pub walk-small : (N : Needs) (p : ℕ → Bool) (list : List ℕ) → Walk N p list → (n : ℕ) → Among n list → n < N.count
walk-small N p [] f n h = absurd h
walk-small N p (u ∷ rest) f n h = ⊎_elim (λ e. subst (λ z. z < N.count) (sym e) f.0.small) (λ e. walk-small N (add p u) rest f.1 n e) h
