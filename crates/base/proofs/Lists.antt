-- Facts on lists that the proofs of several crates cite.
use Rattle.std.proofs.Common.{subst, zero, suc, map, ◌≡◌, ℕ, ◌+◌, ◌-◌, ◌<◌, ◌≤◌, ◌||◌, Bool, List, [], ◌∷◌, ◌++◌, length, take, drop, get_or, slice_get, true, false, Some, refl, sym, ap, ap₂, ◌∙◌, add-one, cond, arith}
use Rattle.std.specs.List.{All, AllByRecursion, filter, flat_map, list_any, range_with_len}
use Rattle.std.specs.Str.{bytes_eq}
use Rattle.std.proofs.Math.Seq.{take-append_seam, take-suc}
use Rattle.std.proofs.lemmas.List.{get_or-take, get_or_append_left, get_or-append_right, length-take-le, map-append}
use Rattle.std.proofs.lemmas.List.Elements.{All-nil, All-cons, All-head, All-tail, All-append, filter-append}
use Rattle.std.proofs.lemmas.List.FromFn.{map-range_with_len_more}
use Rattle.std.proofs.lemmas.Option.{get_or_from_slice_get, slice_get_within}
use Rattle.std.proofs.lemmas.Slice.Eq.{bytes_eq-Decides}
use borrow.Rule.Slice.PartMut.{put_mid}
use Rattle.base.proofs.Booleans.{clash}

-- two functions that agree at each entry map the list alike
pub map_same : {X Y : Type 0} (f g : X → Y) (xs : List X) → All (λ x. f x ≡ g x) xs → map f xs ≡ map g xs
map_same f g [] same = refl
map_same f g (x ∷ xs) same = ap₂ (λ y ys. y ∷ ys) (All-head (λ x. f x ≡ g x) x xs same) (map_same f g xs (All-tail (λ x. f x ≡ g x) x xs same))

-- what holds of all holds of the one that is got
pub entry_of : {X : Type 0} (P : X → Type 0) (xs : List X) (i : ℕ) (x : X) → All P xs → slice_get xs i ≡ Some x → P x
entry_of P xs i x all is = subst P (get_or_from_slice_get xs i x x is) (all i x (slice_get_within xs i x is))

-- of a list of one
pub one : {X : Type 0} (P : X → Type 0) (x : X) → P x → All P (x ∷ [])
one P x p = All-cons P x [] p (All-nil P)

-- of lists that are joined
pub each_of : {X Y : Type 0} (P : Y → Type 0) (f : X → List Y) (xs : List X) → All (λ x. All P (f x)) xs → All P (flat_map f xs)
each_of P f [] all = All-nil P
each_of P f (x ∷ xs) all = All-append P (f x) (flat_map f xs) (all 0 x (omega arith)) (each_of P f xs (λ k d lt. all (suc k) d (omega arith)))

-- a range with its last number taken off
pub range_more : (a m n : ℕ) → a + m ≡ n → range_with_len a (suc m) ≡ range_with_len a m ++ n ∷ []
range_more a zero n e = let f : a ≡ n = omega (arith, e) in ap (λ z. z ∷ []) f
range_more a (suc m) n e = ap (λ l. a ∷ l) (range_more (a + 1) m n (omega (arith, e)))

pub same_bytes : (k : List ℕ) → bytes_eq k k ≡ true
same_bytes k = (bytes_eq-Decides k k).1 refl

pub any_mapped : {X Y : Type 0} (p : Y → Bool) (f : X → Y) (xs : List X) → list_any p (map f xs) ≡ list_any (λ x. p (f x)) xs
any_mapped p f [] = refl
any_mapped p f (x ∷ xs) = ap (λ b. p (f x) || b) (any_mapped p f xs)

-- what holds of each entry of two lists holds of each of both in a row
pub all_append : {X : Type 0} (P : X → Type 0) (xs ys : List X) → AllByRecursion P xs → AllByRecursion P ys → AllByRecursion P (xs ++ ys)
all_append P [] ys x y = y
all_append P (z ∷ xs) ys x y = (x.0, all_append P xs ys x.1 y)

-- entries of joined lists
pub got_front : {X : Type 0} (xs ys : List X) (p : ℕ) (x : X) → slice_get xs p ≡ Some x → slice_get (xs ++ ys) p ≡ Some x
got_front [] ys p x at = absurd cc
got_front (y ∷ xs) ys zero x at = at
got_front (y ∷ xs) ys (suc p) x at = got_front xs ys p x at

pub got_back : {X : Type 0} (xs ys : List X) (p : ℕ) → slice_get (xs ++ ys) (length xs + p) ≡ slice_get ys p
got_back [] ys p = let z : 0 + p ≡ p = omega arith in ap (slice_get ys) z
got_back (x ∷ xs) ys p = let e : suc (length xs) + p ≡ suc (length xs + p) = omega arith in ap (slice_get (x ∷ (xs ++ ys))) e ∙ got_back xs ys p

-- the first so many entries, where as many are written before the others
pub written_back : (count : ℕ) (new more : List ℕ) → length new ≡ count → take count (new ++ more) ≡ new
written_back count new more is = subst (λ n. take n (new ++ more) ≡ new) is (take-append_seam new more)

-- bytes before a part that was put into others, and those of the part
pub mid_below : (a n : ℕ) (xs ys : List ℕ) (k : ℕ) → a ≤ length xs → k < a → get_or (put_mid a n xs ys) k 0 ≡ get_or xs k 0
mid_below a n xs ys k le lt = get_or_append_left (take a xs) (ys ++ drop n (drop a xs)) 0 k (omega (arith, le, lt, length-take-le a xs le)) ∙ get_or-take a xs k 0 lt

pub mid_at : (a n : ℕ) (xs ys : List ℕ) (j : ℕ) → a ≤ length xs → j < length ys → get_or (put_mid a n xs ys) (a + j) 0 ≡ get_or ys j 0
mid_at a n xs ys j le lt =
    let same : a + j - a ≡ j = omega arith in
    get_or-append_right (take a xs) (ys ++ drop n (drop a xs)) a (a + j) 0 (length-take-le a xs le) (omega arith) ∙ ap (λ m. get_or (ys ++ drop n (drop a xs)) m 0) same ∙ get_or_append_left ys (drop n (drop a xs)) 0 j lt

-- one entry more of a list that a loop makes
pub one_image : {X Y : Type 0} (f : X → Y) (xs : List X) (n : ℕ) (x : X) (old more : List Y) (y : Y) → old ≡ map f (take n xs) → slice_get xs n ≡ Some x → y ≡ f x → more ≡ old ++ y ∷ [] → more ≡ map f (take (n + 1) xs)
one_image f xs n x old more y so_far at is grows =
    let lt : n < length xs = slice_get_within xs n x at in
    let here : take (n + 1) xs ≡ take n xs ++ x ∷ [] = ap (λ k. take k xs) (add-one n) ∙ take-suc xs n x lt ∙ ap (λ z. take n xs ++ z ∷ []) (get_or_from_slice_get xs n x x at) in
    grows ∙ ap (λ l. l ++ y ∷ []) so_far ∙ ap (λ z. map f (take n xs) ++ z ∷ []) is ∙ sym (ap (map f) here ∙ map-append f (take n xs) (x ∷ []))

pub one_more : {X : Type 0} (f : ℕ → X) (n : ℕ) (x : X) (old more : List X) → old ≡ map f (range_with_len 0 n) → x ≡ f n → more ≡ old ++ x ∷ [] → more ≡ map f (range_with_len 0 (n + 1))
one_more f n x old more so_far is grows = grows ∙ ap (λ l. l ++ x ∷ []) so_far ∙ ap (λ y. map f (range_with_len 0 n) ++ y ∷ []) is ∙ sym (map-range_with_len_more f 0 n n (omega arith))

pub chosen_more : (test : ℕ → Bool) (i : ℕ) → filter test (range_with_len 0 (i + 1)) ≡ filter test (range_with_len 0 i) ++ cond (test i) (i ∷ []) []
chosen_more test i = rw add-one (ap (filter test) (range_more 0 i i (let e : 0 + i ≡ i = omega arith in e)) ∙ filter-append test (range_with_len 0 i) (i ∷ []))

-- what differs differs both ways
pub turned : (a b : List ℕ) → bytes_eq a b ≡ false → bytes_eq b a ≡ false
turned a b e = by_test (bytes_eq b a) refl
  where
    by_test : (c : Bool) → bytes_eq b a ≡ c → bytes_eq b a ≡ false
    by_test false f = f
    by_test true f = absurd (clash (sym e ∙ (bytes_eq-Decides a b).1 (sym ((bytes_eq-Decides b a).0 f))))
