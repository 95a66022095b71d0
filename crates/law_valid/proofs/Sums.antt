-- Sums over the numbers below a number.
use Rattle.std.proofs.Common.{◌≡◌, ◌≢◌, ⊎_elim, ℕ, zero, suc, ◌+◌, ◌<◌, ◌≤◌, ◌==◌, Bool, true, false, List, [], ◌∷◌, length, map, get_or, slice_get, if◌then◌else◌, refl, sym, ap, ◌∙◌, subst, eq-eqb, arith}
use Rattle.std.specs.List.{All, AllPairs, count_by, filter, sum_by, range_with_len}
use Rattle.std.specs.Option.{option_map_or}
use Rattle.std.proofs.lemmas.Bool.{cases_lt, ne_eqb}
use Rattle.std.proofs.lemmas.Bool.Decides.{eqb_tells}
use Rattle.std.proofs.lemmas.List.{length-append}
use Rattle.std.proofs.lemmas.List.Elements.{All-head, All-tail}
use Rattle.std.proofs.lemmas.List.Sums.{sum_by-cons, sum_by-append}
use Rattle.compile_timeline.specs.Below.{all_below}

abbrev pub sum_below : (ℕ → ℕ) → ℕ → ℕ
sum_below f zero = 0
sum_below f (suc n) = sum_below f n + f n

pub below_le : (f g : ℕ → ℕ) (n : ℕ) → ((k : ℕ) → k < n → f k ≤ g k) → sum_below f n ≤ sum_below g n
below_le f g zero le = omega arith
below_le f g (suc n) le = omega (arith, below_le f g n (λ k lt. le k (omega (arith, lt))), le n (omega arith))

pub below_both : (f g : ℕ → ℕ) (n : ℕ) → sum_below (λ k. f k + g k) n ≡ sum_below f n + sum_below g n
below_both f g zero = omega arith
below_both f g (suc n) = omega (arith, below_both f g n)

below_none : (n : ℕ) → sum_below (λ k. 0) n ≡ 0
below_none zero = refl
below_none (suc n) = omega (arith, below_none n)

below_first : (f : ℕ → ℕ) (n : ℕ) → sum_below f (suc n) ≡ f 0 + sum_below (λ k. f (suc k)) n
below_first f zero = omega arith
below_first f (suc n) = omega (arith, below_first f n)

-- ONE NUMBER COUNTS

abbrev pub at_one : ℕ → (ℕ → ℕ) → ℕ → ℕ
at_one i f k = if i == k then f k else 0

miss : (i k : ℕ) (f : ℕ → ℕ) → i ≢ k → at_one i f k ≡ 0
miss i k f ne = ap (λ b. if b then f k else 0) (ne_eqb i k ne)

below_miss : (i : ℕ) (f : ℕ → ℕ) (n : ℕ) → n ≤ i → sum_below (at_one i f) n ≡ 0
below_miss i f zero le = refl
below_miss i f (suc n) le = omega (arith, below_miss i f n (omega (arith, le)), miss i n f (λ e. omega (arith, e, le)))

at_hit : (i k : ℕ) (f : ℕ → ℕ) → i ≡ k → at_one i f k ≡ f i
at_hit i k f e = subst (λ x. at_one i f x ≡ f i) e (ap (λ b. if b then f i else 0) (eq-eqb i i refl))

pub below_hit : (i : ℕ) (f : ℕ → ℕ) (n : ℕ) → i < n → sum_below (at_one i f) n ≡ f i
below_hit i f zero lt = absurd (omega (arith, lt))
below_hit i f (suc n) lt = ⊎_elim
    (λ h. let other = miss i n f (λ e. omega (arith, e, h)) in omega (arith, below_hit i f n h, other))
    (λ h. let e : i ≡ n = omega (arith, h, lt) in omega (arith, below_miss i f n h, at_hit i n f e))
    (cases_lt i n)

pub below_once : (i : ℕ) (f : ℕ → ℕ) (n : ℕ) → sum_below (at_one i f) n ≤ f i
below_once i f n = ⊎_elim
    (λ h. omega (arith, below_hit i f n h))
    (λ h. omega (arith, below_miss i f n h))
    (cases_lt i n)

-- of all other numbers
abbrev pub but_one : ℕ → ℕ → ℕ
but_one i k = if i == k then 0 else 1

but_at_most : (i k : ℕ) → but_one i k ≤ 1
but_at_most i k = go (i == k)
  where
    go : (b : Bool) → (if b then 0 else 1) ≤ 1
    go true = omega arith
    go false = omega arith

but_few : (i n : ℕ) → sum_below (but_one i) n ≤ n
but_few i zero = omega arith
but_few i (suc n) = omega (arith, but_few i n, but_at_most i n)

pub others : (i n : ℕ) → i < n → sum_below (but_one i) n + 1 ≤ n
others i zero lt = absurd (omega (arith, lt))
others i (suc n) lt = ⊎_elim
    (λ h. omega (arith, others i n h, but_at_most i n))
    (λ h. let e : i ≡ n = omega (arith, h, lt) in let own : but_one i n ≡ 0 = ap (λ b. if b then 0 else 1) (eq-eqb i n e) in omega (arith, but_few i n, own))
    (cases_lt i n)

-- TWO SUMS

swapped : (f : ℕ → ℕ → ℕ) (m n : ℕ) → sum_below (λ q. sum_below (f q) n) m ≡ sum_below (λ i. sum_below (λ q. f q i) m) n
swapped f zero n = sym (below_none n)
swapped f (suc m) n = omega (arith, swapped f m n, below_both (λ i. sum_below (λ q. f q i) m) (f m) n)

-- where only the one that something is of counts it
pub spread : (f : ℕ → ℕ → ℕ) (own w : ℕ → ℕ) (m n : ℕ) → ((q i : ℕ) → q < m → f q i ≤ at_one (own i) (λ k. w i) q) → sum_below (λ q. sum_below (f q) n) m ≤ sum_below w n
spread f own w m n le = omega (
  arith,
  swapped f m n,
  below_le (λ i. sum_below (λ q. f q i) m) w n (λ i lt. omega (arith, below_le (λ q. f q i) (at_one (own i) (λ k. w i)) m (λ q l. le q i l), below_once (own i) (λ k. w i) m)),
)

-- SUMS OVER LISTS

pub sum_all : {X : Type 0} (w : X → ℕ) (gives : ℕ → List X) (n : ℕ) → sum_by w (all_below gives n) ≡ sum_below (λ i. sum_by w (gives i)) n
sum_all w gives zero = refl
sum_all w gives (suc n) = omega (arith, sum_all w gives n, sum_by-append w (all_below gives n) (gives n))

pub length_all : {X : Type 0} (gives : ℕ → List X) (n : ℕ) → length (all_below gives n) ≡ sum_below (λ i. length (gives i)) n
length_all gives zero = refl
length_all gives (suc n) = omega (arith, length_all gives n, length-append (all_below gives n) (gives n))

pub sum_mapped : {X Y : Type 0} (w : Y → ℕ) (f : X → Y) (xs : List X) → sum_by w (map f xs) ≡ sum_by (λ x. w (f x)) xs
sum_mapped w f [] = refl
sum_mapped w f (x ∷ xs) = omega (arith, sum_mapped w f xs, sum_by-cons w (f x) (map f xs), sum_by-cons (λ y. w (f y)) x xs)

pub sum_le : {X : Type 0} (f g : X → ℕ) (xs : List X) → ((x : X) → f x ≤ g x) → sum_by f xs ≤ sum_by g xs
sum_le f g [] le = omega arith
sum_le f g (x ∷ xs) le = omega (arith, le x, sum_le f g xs le, sum_by-cons f x xs, sum_by-cons g x xs)

pub sum_filtered : {X : Type 0} (p : X → Bool) (f : X → ℕ) (xs : List X) → sum_by f (filter p xs) ≡ sum_by (λ x. if p x then f x else 0) xs
sum_filtered p f [] = refl
sum_filtered p f (x ∷ xs) = go (p x) (sum_filtered p f xs) ∙ sym (sum_by-cons (λ y. if p y then f y else 0) x xs)
  where
    go : (b : Bool) → sum_by f (filter p xs) ≡ sum_by (λ y. if p y then f y else 0) xs → sum_by f (if b then x ∷ filter p xs else filter p xs) ≡ (if b then f x else 0) + sum_by (λ y. if p y then f y else 0) xs
    go true rest = omega (arith, rest, sum_by-cons f x (filter p xs))
    go false rest = omega (arith, rest)

pub sum_range : (f : ℕ → ℕ) (a n : ℕ) → sum_by f (range_with_len a n) ≡ sum_below (λ k. f (a + k)) n
sum_range f a zero = refl
sum_range f a (suc n) =
    let z : f (a + 0) ≡ f a = (let e : a + 0 ≡ a = omega arith in ap f e) in
    omega (arith, z, below_first (λ k. f (a + k)) n, sum_by-cons f a (range_with_len (a + 1) n), sum_range f (a + 1) n, shifted)
  where
    shifted : sum_below (λ k. f (a + 1 + k)) n ≡ sum_below (λ k. f (a + suc k)) n
    shifted = go n
      where
        go : (m : ℕ) → sum_below (λ k. f (a + 1 + k)) m ≡ sum_below (λ k. f (a + suc k)) m
        go zero = refl
        go (suc m) = let e : a + 1 + m ≡ a + suc m = omega arith in let same : f (a + 1 + m) ≡ f (a + suc m) = ap f e in omega (arith, go m, same)

pub sum_got : {X : Type 0} (f : X → ℕ) (xs : List X) → sum_below (λ i. option_map_or f (slice_get xs i) 0) (length xs) ≡ sum_by f xs
sum_got f [] = refl
sum_got f (x ∷ xs) = omega (arith, below_first (λ i. option_map_or f (slice_get (x ∷ xs) i) 0) (length xs), sum_got f xs, sum_by-cons f x xs)

pub sum_entries : {X : Type 0} (f : X → ℕ) (xs : List X) (d : X) → sum_below (λ i. f (get_or xs i d)) (length xs) ≡ sum_by f xs
sum_entries f [] d = refl
sum_entries f (x ∷ xs) d = omega (arith, below_first (λ i. f (get_or (x ∷ xs) i d)) (length xs), sum_entries f xs d, sum_by-cons f x xs)

-- NUMBERS THAT ARE TOLD ONCE

over_list : {X : Type 0} (h : X → ℕ → ℕ) (n : ℕ) (xs : List X) → sum_by (λ x. sum_below (h x) n) xs ≡ sum_below (λ k. sum_by (λ x. h x k) xs) n
over_list h n [] = sym (below_none n)
over_list h n (x ∷ xs) = omega (
  arith,
  over_list h n xs,
  sum_by-cons (λ y. sum_below (h y) n) x xs,
  below_both (h x) (λ k. sum_by (λ y. h y k) xs) n,
  same n,
)
  where
    same : (m : ℕ) → sum_below (λ k. sum_by (λ y. h y k) (x ∷ xs)) m ≡ sum_below (λ k. h x k + sum_by (λ y. h y k) xs) m
    same zero = refl
    same (suc m) = omega (arith, same m, sum_by-cons (λ y. h y m) x xs)

-- how much is counted of each number
pub counted_once : {X : Type 0} (number : X → ℕ) (n : ℕ) (xs : List X) → sum_below (λ k. count_by (λ x. number x == k) xs) n ≤ length xs
counted_once {X} number n xs = omega (arith, over_list (λ x. at_one (number x) (λ k. 1)) n xs, few xs)
  where
    few : (ys : List X) → sum_by (λ x. sum_below (at_one (number x) (λ k. 1)) n) ys ≤ length ys
    few [] = omega arith
    few (y ∷ ys) = omega (arith, few ys, sum_by-cons (λ x. sum_below (at_one (number x) (λ k. 1)) n) y ys, below_once (number y) (λ k. 1) n)

none_of : (f : ℕ → ℕ) (k : ℕ) (es : List ℕ) → All (λ e. k ≢ e) es → sum_by (λ e. at_one e f k) es ≡ 0
none_of f k [] all = refl
none_of f k (e ∷ es) all =
    let away = All-head (λ x. k ≢ x) e es all in
    omega (arith, none_of f k es (All-tail (λ x. k ≢ x) e es all), sum_by-cons (λ x. at_one x f k) e es, miss e k f (λ same. away (sym same)))

one_of : (f : ℕ → ℕ) (k : ℕ) (es : List ℕ) → AllPairs (λ a b. a ≢ b) es → sum_by (λ e. at_one e f k) es ≤ f k
one_of f k [] once = omega arith
one_of f k (e ∷ es) once = ⊎_elim
    (λ (h : ((e == k) ≡ true) × (e ≡ k)).
    let alone : All (λ x. k ≢ x) es = subst (λ y. All (λ x. y ≢ x) es) h.1 (λ i d lt. once 0 (suc i) d (omega arith) (omega (arith, lt))) in
    let own : at_one e f k ≡ f k = ap (λ b. if b then f k else 0) h.0 in
    omega (arith, none_of f k es alone, own, sum_by-cons (λ x. at_one x f k) e es))
    (λ (h : ((e == k) ≡ false) × (e ≢ k)).
    let other : at_one e f k ≡ 0 = ap (λ b. if b then f k else 0) h.0 in
    omega (arith, one_of f k es (λ i j d less lt. once (suc i) (suc j) d (omega (arith, less)) (omega (arith, lt))), other, sum_by-cons (λ x. at_one x f k) e es))
    (eqb_tells e k)

-- numbers that differ are no more than all numbers
pub sum_once : (f : ℕ → ℕ) (n : ℕ) (es : List ℕ) → AllPairs (λ a b. a ≢ b) es → All (λ e. e < n) es → sum_by f es ≤ sum_below f n
sum_once f n es once low = omega (
  arith,
  each es low,
  over_list (λ e. at_one e f) n es,
  below_le (λ k. sum_by (λ e. at_one e f k) es) f n (λ k lt. one_of f k es once),
)
  where
    each : (xs : List ℕ) → All (λ e. e < n) xs → sum_by f xs ≡ sum_by (λ e. sum_below (at_one e f) n) xs
    each [] all = refl
    each (x ∷ xs) all = omega (arith, each xs (All-tail (λ e. e < n) x xs all), sum_by-cons f x xs, sum_by-cons (λ e. sum_below (at_one e f) n) x xs, below_hit x f n (All-head (λ e. e < n) x xs all))
