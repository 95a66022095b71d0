-- Lists in which nothing stands twice.
use Rattle.std.proofs.Common.{◌≡◌, ◌≢◌, ℕ, suc, ◌<◌, ◌^◌, Bool, true, false, List, [], ◌∷◌, length, take, drop, map, get_or, Some, None, if◌then◌else◌, refl, sym, ap, ◌∙◌, subst, arith}
use Rattle.std.specs.Fmt.{decimal}
use Rattle.std.specs.List.{All, AllPairs, list_any}
use Rattle.std.specs.Str.{bytes_eq}
use Rattle.std.proofs.lemmas.Fmt.{decimal_injective}
use Rattle.std.proofs.lemmas.List.{get_or-take, get_or_default, length-take-le}
use Rattle.std.proofs.lemmas.List.Elements.{All-map}
use Rattle.std.proofs.lemmas.List.Folds.{list_any_none}
use Rattle.std.proofs.lemmas.List.Kept.{AllPairs-cons}
use Rattle.std.proofs.lemmas.Slice.Eq.{bytes_eq-Decides}
use Rattle.base.specs.Walks.{first_in}
use Rattle.frame.proofs.Sufficient.{none_in}
use Rattle.frame.specs.Clashes.{clash, first_clash}
use Rattle.frame.specs.Repeats.{first_repeat}
use Rattle.frame_gen.specs.Generated.{spot}

abbrev pub AreApart : {X : Type 0} → (X → X → Bool) → List X → Type 0
AreApart test xs = AllPairs (λ x y. test y x ≡ false) xs

none_before : {X : Type 0} (test : X → X → Bool) (xs : List X) → AreApart test xs → (k : ℕ) (d : X) → k < length xs → list_any (test (get_or xs k d)) (take k xs) ≡ false
none_before test xs apart k d lt = list_any_none (test (get_or xs k d)) (take k xs) (λ j e less.
    let size : length (take k xs) ≡ k = length-take-le k xs (omega (arith, lt)) in
    let small : j < k = omega (arith, size, less) in
    subst (λ x. test (get_or xs k d) x ≡ false) (sym (get_or-take k xs j e small ∙ get_or_default xs j e d (omega (arith, small, lt)))) (apart j k d small lt))

-- no entry for which the test finds one before it
none_twice : {X : Type 0} (test : X → X → Bool) (xs : List X) → AreApart test xs → first_in (λ i x. if list_any (test x) (take i xs) then Some i else None) 0 xs ≡ None
none_twice test xs apart = none_in (λ i x. if list_any (test x) (take i xs) then Some i else None) xs (λ k d lt. ap (λ b. if b then Some k else None) (none_before test xs apart k d lt))

pairs_mapped : {X Y : Type 0} (R : Y → Y → Type 0) (f : X → Y) (xs : List X) → AllPairs (λ a b. R (f a) (f b)) xs → AllPairs R (map f xs)
pairs_mapped R f [] pairs = λ i j d less lt. absurd (omega (arith, lt))
pairs_mapped R f (x ∷ xs) pairs =
    AllPairs-cons R (f x) (map f xs) (All-map (R (f x)) f xs (λ k d lt. pairs 0 (suc k) d (omega arith) (omega (arith, lt))))
    (pairs_mapped R f xs (λ i j d less lt. pairs (suc i) (suc j) d (omega (arith, less)) (omega (arith, lt))))

-- names of one letter with different numbers
named_apart : (letter x y : ℕ) → x < 2 ^ 32 → y < 2 ^ 32 → x ≢ y → bytes_eq (letter ∷ decimal y) (letter ∷ decimal x) ≡ false
named_apart letter x y small small' differ = by_test (bytes_eq (letter ∷ decimal y) (letter ∷ decimal x)) refl
  where
    by_test : (t : Bool) → bytes_eq (letter ∷ decimal y) (letter ∷ decimal x) ≡ t → t ≡ false
    by_test false e = refl
    by_test true e =
        let same : y ≡ x = decimal_injective y x (omega (arith, small')) (omega (arith, small)) (ap (drop 1) ((bytes_eq-Decides (letter ∷ decimal y) (letter ∷ decimal x)).0 e)) in
        absurd (differ (sym same))

module _ (ns : List ℕ) (small : All (λ n. n < 2 ^ 32) ns) (differ : AllPairs (λ x y. x ≢ y) ns) where
  numbers_apart : (letter : ℕ) → AllPairs (λ x y. bytes_eq (letter ∷ decimal y) (letter ∷ decimal x) ≡ false) ns
  numbers_apart letter = λ i j d less lt. named_apart letter (get_or ns i d) (get_or ns j d) (small i d (omega (arith, less, lt))) (small j d lt) (differ i j d less lt)

  pub names_once : (letter : ℕ) → first_repeat (map (λ n. letter ∷ decimal n) ns) ≡ None
  names_once letter = none_twice bytes_eq (map (λ n. letter ∷ decimal n) ns) (pairs_mapped (λ a b. bytes_eq b a ≡ false) (λ n. letter ∷ decimal n) ns (numbers_apart letter))

  pub spots_once : first_clash (map spot ns) ≡ None
  spots_once = none_twice clash (map spot ns) (pairs_mapped (λ a b. clash b a ≡ false) spot ns (λ i j d less lt. clashless (get_or ns i d) (get_or ns j d) (numbers_apart 114 i j d less lt)))
    where
      clashless : (x y : ℕ) → bytes_eq (114 ∷ decimal y) (114 ∷ decimal x) ≡ false → clash (spot y) (spot x) ≡ false
      clashless x y e = rw e refl
