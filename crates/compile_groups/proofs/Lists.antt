-- Lists of lists, pairs and filters.
use Rattle.std.proofs.Common.{◌≡◌, ℕ, zero, suc, ◌+◌, ◌<◌, ◌≤◌, Bool, true, false, ◌||◌, List, [], ◌∷◌, ◌++◌, length, take, Some, if◌then◌else◌, refl, sym, ap, ap₂, ◌∙◌, arith}
use Rattle.std.specs.List.{All, AllPairs, filter, flat_map, list_any, range_with_len}
use Rattle.std.specs.Prelude.{slice_get, slice_index_or}
use Rattle.std.proofs.lemmas.List.{append-nil, take_more, take_all}
use Rattle.std.proofs.lemmas.List.Concat.{flat_map-append}
use Rattle.std.proofs.lemmas.List.Elements.{All-nil, All-cons, All-head, All-tail, All-append, filter-append}
use Rattle.std.proofs.lemmas.List.Folds.{list_any-append}
use Rattle.std.proofs.lemmas.List.Kept.{AllPairs-cons}
use Rattle.std.proofs.lemmas.Option.{slice_get_within, get_or_from_slice_get}
use Rattle.base.proofs.Lists.{range_more}
use Rattle.compile_groups.specs.Laws.{flat}

pub flat_map_same : {X Y : Type 0} (f g : X → List Y) → ((x : X) → f x ≡ g x) → (xs : List X) → flat_map f xs ≡ flat_map g xs
flat_map_same f g same [] = refl
flat_map_same f g same (x ∷ xs) = ap₂ (λ a b. a ++ b) (same x) (flat_map_same f g same xs)

pub filter_same : {X : Type 0} (p q : X → Bool) (xs : List X) → All (λ x. p x ≡ q x) xs → filter p xs ≡ filter q xs
filter_same p q [] same = refl
filter_same p q (x ∷ xs) same = ap₂ (λ b ys. if b then x ∷ ys else ys) (All-head (λ y. p y ≡ q y) x xs same) (filter_same p q xs (All-tail (λ y. p y ≡ q y) x xs same))

pub any_flat : {X Y : Type 0} (p : Y → Bool) (f : X → List Y) (xs : List X) → list_any p (flat_map f xs) ≡ list_any (λ x. list_any p (f x)) xs
any_flat p f [] = refl
any_flat p f (x ∷ xs) = list_any-append p (f x) (flat_map f xs) ∙ ap (λ b. list_any p (f x) || b) (any_flat p f xs)

module _ {X : Type 0} (P : X → Type 0) where
  pub all_first : (xs ys : List X) → All P (xs ++ ys) → All P xs
  all_first [] ys h = All-nil P
  all_first (x ∷ xs) ys h = All-cons P x xs (All-head P x (xs ++ ys) h) (all_first xs ys (All-tail P x (xs ++ ys) h))

  pub all_last : (xs ys : List X) → All P (xs ++ ys) → All P ys
  all_last [] ys h = h
  all_last (x ∷ xs) ys h = all_last xs ys (All-tail P x (xs ++ ys) h)

  pub all_of_flat : (xss : List (List X)) (k : ℕ) → All P (flat xss) → All P (slice_index_or xss k [])
  all_of_flat [] k h = All-nil P
  all_of_flat (xs ∷ xss) zero h = all_first xs (flat xss) h
  all_of_flat (xs ∷ xss) (suc k) h = all_of_flat xss k (all_last xs (flat xss) h)

  pub each_of_flat : (xss : List (List X)) → All P (flat xss) → All (λ xs. All P xs) xss
  each_of_flat [] h = All-nil (λ xs. All P xs)
  each_of_flat (xs ∷ xss) h = All-cons (λ ys. All P ys) xs xss (all_first xs (flat xss) h) (each_of_flat xss (all_last xs (flat xss) h))

  pub all_parts : {Y : Type 0} (f : Y → List X) (ys : List Y) → ((y : Y) → All P (f y)) → All P (flat_map f ys)
  all_parts f [] h = All-nil P
  all_parts f (y ∷ ys) h = All-append P (f y) (flat_map f ys) (h y) (all_parts f ys h)

module _ {X : Type 0} (R : X → X → Type 0) where
  pub pairs_nil : AllPairs R []
  pairs_nil i j d lt within = absurd (omega (arith, within))

  pub pairs_append : (xs ys : List X) → AllPairs R xs → AllPairs R ys → All (λ x. All (R x) ys) xs → AllPairs R (xs ++ ys)
  pairs_append [] ys h k cross = k
  pairs_append (x ∷ xs) ys h k cross =
      AllPairs-cons R x (xs ++ ys)
      (All-append (R x) xs ys (λ j d lt. h zero (suc j) d (omega arith) (omega (arith, lt))) (All-head (λ y. All (R y) ys) x xs cross))
      (pairs_append xs ys (λ i j d lt within. h (suc i) (suc j) d (omega (arith, lt)) (omega (arith, within))) k (All-tail (λ y. All (R y) ys) x xs cross))

  pub pairs_few : (b : Bool) (x : X) → AllPairs R (if b then x ∷ [] else [])
  pairs_few true x i j d lt within = absurd (omega (arith, lt, within))
  pairs_few false x i j d lt within = absurd (omega (arith, within))

  pub pairs_cross : (xs ys : List X) → AllPairs R (xs ++ ys) → All (λ x. All (R x) ys) xs
  pairs_cross [] ys h = All-nil (λ x. All (R x) ys)
  pairs_cross (x ∷ xs) ys h =
      All-cons (λ y. All (R y) ys) x xs
      (all_last (R x) xs ys (λ j d lt. h zero (suc j) d (omega arith) (omega (arith, lt))))
      (pairs_cross xs ys (λ i j d lt within. h (suc i) (suc j) d (omega (arith, lt)) (omega (arith, within))))

  pub pairs_first : (xs ys : List X) → AllPairs R (xs ++ ys) → AllPairs R xs
  pairs_first [] ys h = pairs_nil
  pairs_first (x ∷ xs) ys h =
      AllPairs-cons R x xs
      (all_first (R x) xs ys (λ j d lt. h zero (suc j) d (omega arith) (omega (arith, lt))))
      (pairs_first xs ys (λ i j d lt within. h (suc i) (suc j) d (omega (arith, lt)) (omega (arith, within))))

  pub pairs_last : (xs ys : List X) → AllPairs R (xs ++ ys) → AllPairs R ys
  pairs_last [] ys h = h
  pairs_last (x ∷ xs) ys h = pairs_last xs ys (λ i j d lt within. h (suc i) (suc j) d (omega (arith, lt)) (omega (arith, within)))

  -- of two lists, each of the first stands to each of the second as they do one after another
  pub apart : (groups : List (List X)) (g h : ℕ) → AllPairs R (flat groups) → g < h → All (λ u. All (R u) (slice_index_or groups h [])) (slice_index_or groups g [])
  apart [] g h pairs lt = All-nil (λ u. All (R u) (slice_index_or [] h []))
  apart (A ∷ groups) g zero pairs lt = absurd (omega (arith, lt))
  apart (A ∷ groups) zero (suc h) pairs lt = λ i d li. all_of_flat (R (slice_index_or A i d)) groups h (pairs_cross A (flat groups) pairs i d li)
  apart (A ∷ groups) (suc g) (suc h) pairs lt = apart groups g h (pairs_last A (flat groups) pairs) (omega (arith, lt))

  pub within_each : (groups : List (List X)) → AllPairs R (flat groups) → All (AllPairs R) groups
  within_each [] pairs = All-nil (AllPairs R)
  within_each (A ∷ groups) pairs = All-cons (AllPairs R) A groups (pairs_first A (flat groups) pairs) (within_each groups (pairs_last A (flat groups) pairs))

-- ONE MORE AT THE END

pub took : {X : Type 0} (xs list more : List X) (i : ℕ) (x : X) → list ≡ take i xs → slice_get xs i ≡ Some x → more ≡ list ++ x ∷ [] → more ≡ take (i + 1) xs
took xs list more i x e g m = m ∙ ap (λ l. l ++ x ∷ []) e ∙ sym (take_more xs i x (slice_get_within xs i x g) ∙ ap (λ y. take i xs ++ y ∷ []) (get_or_from_slice_get xs i x x g))

pub took_all : {X : Type 0} (xs list : List X) (n : ℕ) → length xs ≤ n → list ≡ take n xs → list ≡ xs
took_all xs list n le e = e ∙ take_all n xs le

range_next : (n next : ℕ) → n + 1 ≡ next → range_with_len 0 next ≡ range_with_len 0 n ++ n ∷ []
range_next n next e =
    let s : next ≡ suc n = omega (arith, e) in
    let z : 0 + n ≡ n = omega arith in
    ap (range_with_len 0) s ∙ range_more 0 n n z

-- a number more
pub flat_range_more : {X : Type 0} (f : ℕ → List X) (n : ℕ) (list more : List X) → list ≡ flat_map f (range_with_len 0 n) → more ≡ list ++ f n → more ≡ flat_map f (range_with_len 0 (n + 1))
flat_range_more f n list more e m =
    m ∙ ap (λ l. l ++ f n) e
    ∙ sym (ap (flat_map f) (range_next n (n + 1) refl) ∙ flat_map-append f (range_with_len 0 n) (n ∷ []) ∙ ap (λ l. flat_map f (range_with_len 0 n) ++ l) (append-nil (f n)))

pub filter_range_more : (p : ℕ → Bool) (n : ℕ) (list more : List ℕ) → list ≡ filter p (range_with_len 0 n) → more ≡ (if p n then list ++ n ∷ [] else list) → more ≡ filter p (range_with_len 0 (n + 1))
filter_range_more p n list more e m =
    m ∙ ap (λ l. if p n then l ++ n ∷ [] else l) e
    ∙ sym (ap (filter p) (range_next n (n + 1) refl) ∙ filter-append p (range_with_len 0 n) (n ∷ []) ∙ go (p n))
  where
    go : (b : Bool) → filter p (range_with_len 0 n) ++ (if b then n ∷ [] else []) ≡ (if b then filter p (range_with_len 0 n) ++ n ∷ [] else filter p (range_with_len 0 n))
    go true = refl
    go false = append-nil (filter p (range_with_len 0 n))
