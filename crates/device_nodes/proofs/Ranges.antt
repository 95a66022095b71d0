-- Tests of all or some numbers of a range, and of all items of a list.
use Rattle.std.proofs.Common.{◌≡◌, ℕ, zero, suc, ◌+◌, ◌<◌, ◌≤◌, Bool, true, List, [], ◌∷◌, length, get_or, refl, sym, ap, ◌∙◌, ⊎_elim, arith}
use Rattle.std.specs.List.{list_all, list_any, range_with_len}
use Rattle.std.proofs.lemmas.Bool.{cases_eq, false≢true, and_parts, and_from, or_cases, or_left, or_right}
use Rattle.device_model.specs.Ready.{each_node, some_node}
use Rattle.check_access.specs.Views.{View}

all_range : (f : ℕ → Bool) (k m : ℕ) → ((x : ℕ) → k ≤ x → x < k + m → f x ≡ true) → list_all f (range_with_len k m) ≡ true
all_range f k zero h = refl
all_range f k (suc m) h = and_from (f k) (list_all f (range_with_len (k + 1) m)) (h k (omega arith) (omega arith)) (all_range f (k + 1) m (λ x a b. h x (omega (arith, a)) (omega (arith, b))))

range_all : (f : ℕ → Bool) (k m : ℕ) → list_all f (range_with_len k m) ≡ true → (x : ℕ) → k ≤ x → x < k + m → f x ≡ true
range_all f k zero h x a b = absurd (omega (arith, a, b))
range_all f k (suc m) h x a b =
    let p = and_parts (f k) (list_all f (range_with_len (k + 1) m)) h in
    ⊎_elim (λ (e : x ≡ k). ap f e ∙ p.0) (λ (ne : x ≡ k → ⊥). range_all f (k + 1) m p.1 x (omega (arith, a, ne)) (omega (arith, b))) (cases_eq x k)

any_range : (f : ℕ → Bool) (k m x : ℕ) → k ≤ x → x < k + m → f x ≡ true → list_any f (range_with_len k m) ≡ true
any_range f k zero x a b h = absurd (omega (arith, a, b))
any_range f k (suc m) x a b h = ⊎_elim
    (λ (e : x ≡ k). or_left (f k) (list_any f (range_with_len (k + 1) m)) (ap f (sym e) ∙ h))
    (λ (ne : x ≡ k → ⊥). or_right (f k) (list_any f (range_with_len (k + 1) m)) (any_range f (k + 1) m x (omega (arith, a, ne)) (omega (arith, b)) h))
    (cases_eq x k)

range_any : (f : ℕ → Bool) (k m : ℕ) → list_any f (range_with_len k m) ≡ true → (x : ℕ) × (x < k + m) × (f x ≡ true)
range_any f k zero h = absurd (false≢true h)
range_any f k (suc m) h = ⊎_elim
    (λ e. (k, omega arith, e))
    (λ e. let r = range_any f (k + 1) m e in (r.0, omega (arith, r.1), r.2))
    (or_cases (f k) (list_any f (range_with_len (k + 1) m)) h)

module _ (V : View) (f : ℕ → Bool) where
  pub every_node : ((x : ℕ) → x < length V.nodes → f x ≡ true) → each_node V f ≡ true
  every_node h = all_range f 0 (length V.nodes) (λ x a b. h x (omega (arith, b)))

  pub at_node : each_node V f ≡ true → (x : ℕ) → x < length V.nodes → f x ≡ true
  at_node h x lt = range_all f 0 (length V.nodes) h x (omega arith) (omega (arith, lt))

  pub node_is : (x : ℕ) → x < length V.nodes → f x ≡ true → some_node V f ≡ true
  node_is x lt h = any_range f 0 (length V.nodes) x (omega arith) (omega (arith, lt)) h

  pub one_node : some_node V f ≡ true → (x : ℕ) × (x < length V.nodes) × (f x ≡ true)
  one_node h = let r = range_any f 0 (length V.nodes) h in (r.0, omega (arith, r.1), r.2)

-- LISTS

pub all_items : {X : Type 0} (f : X → Bool) (xs : List X) (d : X) → ((k : ℕ) → k < length xs → f (get_or xs k d) ≡ true) → list_all f xs ≡ true
all_items f [] d h = refl
all_items f (x ∷ xs) d h = and_from (f x) (list_all f xs) (h 0 (omega arith)) (all_items f xs d (λ k lt. h (suc k) (omega (arith, lt))))

pub item_all : {X : Type 0} (f : X → Bool) (xs : List X) (d : X) → list_all f xs ≡ true → (k : ℕ) → k < length xs → f (get_or xs k d) ≡ true
item_all f [] d h k lt = absurd (omega (arith, lt))
item_all f (x ∷ xs) d h zero lt = (and_parts (f x) (list_all f xs) h).0
item_all f (x ∷ xs) d h (suc k) lt = item_all f xs d (and_parts (f x) (list_all f xs) h).1 k (omega (arith, lt))
