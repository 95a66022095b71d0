-- Lists that the numbers below a number give, and places in them.
use Rattle.std.proofs.Common.{◌≡◌, ◌⊎◌, inl, inr, ℕ, zero, suc, ◌+◌, ◌<◌, ◌≤◌, ◌||◌, Bool, true, false, if◌then◌else◌, List, [], ◌∷◌, ◌++◌, length, map, Some, refl, sym, ap, ◌∙◌, length-append, arith}
use Rattle.std.specs.Prelude.{slice_get}
use Rattle.std.proofs.lemmas.Bool.{cases_Bool}
use Rattle.std.proofs.lemmas.List.{map-append}
use Rattle.base.proofs.Lists.{got_front, got_back}
use Rattle.compile_timeline.specs.Below.{any_below, count_below, all_below}

pub side : (n m : ℕ) → (n < m) ⊎ (m ≤ n)
side n m = grind arith

-- PLACES IN TWO LISTS

pub data InTwo {X : Type 0} (xs ys : List X) (k : ℕ) (x : X) : Type 0 where
  in_left : slice_get xs k ≡ Some x → InTwo xs ys k x
  in_right : (j : ℕ) → k ≡ length xs + j → slice_get ys j ≡ Some x → InTwo xs ys k x

pub in_two : {X : Type 0} (xs ys : List X) (k : ℕ) (x : X) → slice_get (xs ++ ys) k ≡ Some x → InTwo xs ys k x
in_two [] ys k x e = in_right k (omega arith) e
in_two (z ∷ xs) ys zero x e = in_left e
in_two (z ∷ xs) ys (suc k) x e = go (in_two xs ys k x e)
  where
    go : InTwo xs ys k x → InTwo (z ∷ xs) ys (suc k) x
    go (in_left h) = in_left h
    go (in_right j is h) = in_right j (omega (arith, is)) h

pub record InMap {X Y : Type 0} (f : X → Y) (xs : List X) (k : ℕ) (y : Y) : Type 0 where
  pub from : X
  pub there : slice_get xs k ≡ Some from
  pub is : y ≡ f from

pub in_map : {X Y : Type 0} (f : X → Y) (xs : List X) (k : ℕ) (y : Y) → slice_get (map f xs) k ≡ Some y → InMap f xs k y
in_map f [] k y e = absurd cc
in_map f (x ∷ xs) zero y e = record { from = x; there = refl; is = cc }
in_map f (x ∷ xs) (suc k) y e = let m = in_map f xs k y e in record { from = m.from; there = m.there; is = m.is }

-- PLACES IN ALL LISTS

-- those of an earlier number come first
pub begins_before : {X : Type 0} (f : ℕ → List X) (a n : ℕ) → a < n → length (all_below f a) + length (f a) ≤ length (all_below f n)
begins_before f a zero lt = absurd (no lt)
  where
    no : a < 0 → ⊥
    no h = omega arith
begins_before f a (suc n) lt = go (side a n) (λ l. begins_before f a n l)
  where
    longer : length (all_below f n ++ f n) ≡ length (all_below f n) + length (f n)
    longer = length-append (all_below f n) (f n)

    go : (a < n) ⊎ (n ≤ a) → (a < n → length (all_below f a) + length (f a) ≤ length (all_below f n)) → length (all_below f a) + length (f a) ≤ length (all_below f n ++ f n)
    go (inl l) ih = let r = ih l in omega (arith, r, longer)
    go (inr g) ih = let same : a ≡ n = omega (arith, lt, g) in let e : length (all_below f a) + length (f a) ≡ length (all_below f n) + length (f n) = ap (λ z. length (all_below f z) + length (f z)) same in omega (arith, e, longer)

pub there_below : {X : Type 0} (f : ℕ → List X) (n a j : ℕ) (x : X) → a < n → slice_get (f a) j ≡ Some x → slice_get (all_below f n) (length (all_below f a) + j) ≡ Some x
there_below f zero a j x lt e = absurd (no lt)
  where
    no : a < 0 → ⊥
    no h = omega arith
there_below f (suc n) a j x lt e = go (side a n) (λ l. there_below f n a j x l e)
  where
    go : (a < n) ⊎ (n ≤ a) → (a < n → slice_get (all_below f n) (length (all_below f a) + j) ≡ Some x) → slice_get (all_below f n ++ f n) (length (all_below f a) + j) ≡ Some x
    go (inl l) ih = got_front (all_below f n) (f n) (length (all_below f a) + j) x (ih l)
    go (inr g) ih =
        let same : a ≡ n = omega (arith, lt, g) in
        ap (λ z. slice_get (all_below f n ++ f n) (length (all_below f z) + j)) same ∙ got_back (all_below f n) (f n) j ∙ ap (λ z. slice_get (f z) j) (sym same) ∙ e

pub record InBelow {X : Type 0} (f : ℕ → List X) (n k : ℕ) (x : X) : Type 0 where
  pub entry : ℕ
  pub inside : ℕ
  pub known : entry < n
  pub is : k ≡ length (all_below f entry) + inside
  pub there : slice_get (f entry) inside ≡ Some x

pub in_below : {X : Type 0} (f : ℕ → List X) (n k : ℕ) (x : X) → slice_get (all_below f n) k ≡ Some x → InBelow f n k x
in_below f zero k x e = absurd cc
in_below f (suc n) k x e = go (in_two (all_below f n) (f n) k x e) (λ h. in_below f n k x h)
  where
    go : InTwo (all_below f n) (f n) k x → (slice_get (all_below f n) k ≡ Some x → InBelow f n k x) → InBelow f (suc n) k x
    go (in_left h) ih = let r = ih h in let l = r.known in record { entry = r.entry; inside = r.inside; known = omega (arith, l); is = r.is; there = r.there }
    go (in_right j is h) ih = record { entry = n; inside = j; known = omega arith; is = is; there = h }

-- EQUAL NUMBER BY NUMBER

pub map_below : {X Y : Type 0} (g : X → Y) (f : ℕ → List X) (n : ℕ) → map g (all_below f n) ≡ all_below (λ k. map g (f k)) n
map_below g f zero = refl
map_below g f (suc n) = map-append g (all_below f n) (f n) ∙ ap (λ xs. xs ++ map g (f n)) (map_below g f n)

pub same_below : {X : Type 0} (f g : ℕ → List X) (n : ℕ) → ((k : ℕ) → k < n → f k ≡ g k) → all_below f n ≡ all_below g n
same_below f g zero h = refl
same_below f g (suc n) h = ap (λ xs. xs ++ f n) (same_below f g n (λ k lt. h k (omega (arith, lt)))) ∙ ap (λ xs. all_below g n ++ xs) (h n (omega arith))

pub same_any : (f g : ℕ → Bool) (n : ℕ) → ((k : ℕ) → k < n → f k ≡ g k) → any_below f n ≡ any_below g n
same_any f g zero h = refl
same_any f g (suc n) h = ap (λ b. b || any_below f n) (h n (omega arith)) ∙ ap (λ b. g n || b) (same_any f g n (λ k lt. h k (omega (arith, lt))))

pub any_there : (test : ℕ → Bool) (n k : ℕ) → k < n → test k ≡ true → any_below test n ≡ true
any_there test zero k lt t = absurd (no lt)
  where
    no : k < 0 → ⊥
    no h = omega arith
any_there test (suc n) k lt t = go (side k n) (λ l. any_there test n k l t)
  where
    or_true : (b : Bool) → (b || true) ≡ true
    or_true true = refl
    or_true false = refl

    go : (k < n) ⊎ (n ≤ k) → (k < n → any_below test n ≡ true) → (test n || any_below test n) ≡ true
    go (inl l) ih = ap (λ b. test n || b) (ih l) ∙ or_true (test n)
    go (inr g) ih = let same : n ≡ k = omega (arith, lt, g) in ap (λ b. b || any_below test n) (ap test same ∙ t)

-- COUNTS

pub count_few : (test : ℕ → Bool) (n : ℕ) → count_below test n ≤ n
count_few test zero = omega arith
count_few test (suc n) = go (cases_Bool (test n)) (count_few test n)
  where
    go : (test n ≡ true) ⊎ (test n ≡ false) → count_below test n ≤ n → count_below test (suc n) ≤ suc n
    go (inl t) r = let e : count_below test (suc n) ≡ suc (count_below test n) = ap (λ z. if z then suc (count_below test n) else count_below test n) t in omega (arith, e, r)
    go (inr f) r = let e : count_below test (suc n) ≡ count_below test n = ap (λ z. if z then suc (count_below test n) else count_below test n) f in omega (arith, e, r)

pub count_up : (test : ℕ → Bool) (a b : ℕ) → a ≤ b → count_below test a ≤ count_below test b
count_up test a zero le = let none : a ≡ 0 = omega arith in let e : count_below test a ≡ 0 = ap (count_below test) none in omega (arith, e)
count_up test a (suc b) le = go (side a (suc b)) (cases_Bool (test b)) (λ l. count_up test a b l)
  where
    go : (a < suc b) ⊎ (suc b ≤ a) → (test b ≡ true) ⊎ (test b ≡ false) → (a ≤ b → count_below test a ≤ count_below test b) → count_below test a ≤ count_below test (suc b)
    go (inr ge) c ih = let same : a ≡ suc b = omega (arith, le, ge) in let e : count_below test a ≡ count_below test (suc b) = ap (count_below test) same in omega (arith, e)
    go (inl l) (inl t) ih = let e : count_below test (suc b) ≡ suc (count_below test b) = ap (λ z. if z then suc (count_below test b) else count_below test b) t in let r = ih (omega (arith, l)) in omega (arith, e, r)
    go (inl l) (inr f) ih = let e : count_below test (suc b) ≡ count_below test b = ap (λ z. if z then suc (count_below test b) else count_below test b) f in let r = ih (omega (arith, l)) in omega (arith, e, r)
