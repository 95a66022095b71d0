-- Keys that are sorted give the order of placing.
use Rattle.std.proofs.Common.{◌≡◌, ◌==◌, ◌||◌, ◌&&◌, ◌⊎◌, inl, inr, ℕ, ◌<◌, ◌≤◌, List, [], ◌∷◌, length, get_or, map, nat_lt, Bool, true, false, refl, sym, ap, subst, ◌∙◌, arith, eq-eqb, Ordering, Less, Equal, Greater}
use Rattle.std.specs.Prelude.{cond}
use Rattle.std.specs.Cmp.{IsTotalOrder}
use Rattle.std.specs.List.{All, Contains, IsDistinct}
use Rattle.std.specs.List.Sorted.{IsPermutation, IsSorted}
use Rattle.std.specs.Ordering.{is_lt, nat_cmp, ordering_then}
use Rattle.std.proofs.lemmas.Bool.Decides.{nat_tests}
use Rattle.std.proofs.lemmas.Cmp.{nat_cmp_total, on_total, back_total, then_total}
use Rattle.std.proofs.lemmas.List.{get_or-map, length-map}
use Rattle.std.proofs.lemmas.List.Elements.{All-map, Contains-get_or}
use Rattle.std.proofs.lemmas.List.Sorted.{All-permutation, Contains-permutation, ranks_by, sorted_far}
use Rattle.std.proofs.lemmas.Map.Keys.{IsDistinct-from_apart, IsDistinct-IsPermutation, apart_from_distinct}
use Rattle.compile_heap.specs.Placing.{number_at, goes_first}
use Rattle.compile_heap.specs.Internal.Choosing.{IsKeyed, IsOrder}
use Rattle.compile_heap.proofs.Order.{one_first}

true_false : true ≡ false → ⊥
true_false e = cc

-- whether a pair is less than another, by its parts
tells_less : (s t u v : Bool) → is_lt (ordering_then (cond s Less (cond t Equal Greater)) (cond u Less (cond v Equal Greater))) ≡ (s || (t && u))
tells_less true t u v = refl
tells_less false true true v = refl
tells_less false true false true = refl
tells_less false true false false = refl
tells_less false false u v = refl

-- an element, to read the list with
some : {X : Type 0} (xs : List X) → 0 < length xs → X
some [] lt = absurd (omega (arith, lt))
some (x ∷ xs) lt = x

pub flip : (a b : ℕ) → (a == b) ≡ (b == a)
flip a b = grind (arith, nat_tests)

apart_eqb : (a b : ℕ) → a < b → (a == b) ≡ false
apart_eqb a b lt = grind (arith, nat_tests)

module _ {X : Type 0} (size number : X → ℕ) where
  abbrev by : X → X → Ordering
  by x y = ordering_then (nat_cmp (size y) (size x)) (nat_cmp (number x) (number y))

  by_total : IsTotalOrder by
  by_total = then_total (back_total (on_total size nat_cmp_total)) (on_total number nat_cmp_total)

  abbrev same : X → X → Bool
  same x y = number x == number y

  module _ (sizes : List ℕ) (keys sorted : List X) (K : IsKeyed size number sizes keys) (moved : IsPermutation keys sorted) (S : IsSorted by sorted) where
    known : All (λ x. (number x < length sizes) × (size x ≡ number_at sizes (number x))) sorted
    known = All-permutation (λ x. (number x < length sizes) × (size x ≡ number_at sizes (number x))) keys sorted moved
        (λ k d lt.
        let n = K.numbered k d lt in
        let count = K.count in
        let less : number (get_or keys k d) < length sizes = omega (arith, n, count, lt) in
        (less, K.sized k d lt ∙ ap (number_at sizes) (sym n)))

    distinct : IsDistinct same sorted
    distinct = IsDistinct-IsPermutation same (λ x y. flip (number x) (number y)) keys sorted moved
        (IsDistinct-from_apart same keys (λ i j d less lt.
        let a = K.numbered i d (omega arith) in
        let b = K.numbered j d lt in
        apart_eqb (number (get_or keys i d)) (number (get_or keys j d)) (omega (arith, a, b, less))))

    in_order : (x y : X) → size x ≡ number_at sizes (number x) → size y ≡ number_at sizes (number y) → same x y ≡ false → is_lt (by y x) ≡ false → goes_first sizes (number x) (number y) ≡ true
    in_order x y sx sy apart after = go (one_first sizes (number x) (number y) (λ e. true_false (sym (eq-eqb (number x) (number y) e) ∙ apart)))
      where
        tells : (a b : ℕ) → size x ≡ a → size y ≡ b → (nat_lt a b || (a == b && nat_lt (number y) (number x))) ≡ false
        tells a b ea eb = subst (λ n. (nat_lt n b || (n == b && nat_lt (number y) (number x))) ≡ false) ea (subst (λ n. (nat_lt (size x) n || (size x == n && nat_lt (number y) (number x))) ≡ false) eb
            (sym (tells_less (nat_lt (size x) (size y)) (size x == size y) (nat_lt (number y) (number x)) (number y == number x)) ∙ after))

        go : (goes_first sizes (number y) (number x) ≡ true) ⊎ (goes_first sizes (number x) (number y) ≡ true) → goes_first sizes (number x) (number y) ≡ true
        go (inl e) = absurd (true_false (sym e ∙ tells (number_at sizes (number x)) (number_at sizes (number y)) sx sy))
        go (inr e) = e

    falling : (k m d : ℕ) → k < m → m < length sorted → goes_first sizes (get_or (map number sorted) k d) (get_or (map number sorted) m d) ≡ true
    falling k m d less lt =
        let z = some sorted (omega arith) in
        let lt-k : k < length sorted = omega arith in
        let le : k ≤ m = omega arith in
        let here = known k z lt-k in
        let there = known m z lt in
        let first = in_order (get_or sorted k z) (get_or sorted m z) here.1 there.1 (apart_from_distinct same sorted k m z distinct less lt) (sorted_far (λ x y. is_lt (by x y)) (ranks_by by_total (λ x. x)) sorted S k m z le lt) in
        subst (λ j. goes_first sizes j (get_or (map number sorted) m d) ≡ true) (sym (get_or-map number sorted k z d lt-k)) (subst (λ j. goes_first sizes (number (get_or sorted k z)) j ≡ true) (sym (get_or-map number sorted m z d lt)) first)

    member : (j : ℕ) → j < length sizes → Contains (map number sorted) j
    member j lt =
        let count = K.count in
        let lt-j : j < length keys = omega (arith, count, lt) in
        let z = some keys (omega arith) in
        let m = Contains-permutation keys sorted (get_or keys j z) moved (Contains-get_or keys j z lt-j) in
        (m.0, subst (λ n. m.0 < n) (sym (length-map sorted number)) m.1, get_or-map number sorted m.0 (get_or keys j z) j m.1 ∙ (ap number m.2 ∙ K.numbered j z lt-j))

    pub sorted_order : IsOrder sizes (map number sorted)
    sorted_order = record {
      within = All-map (λ j. j < length sizes) number sorted (λ k d lt. (known k d lt).0);
      each = member;
      falling = λ k m d less lt. falling k m d less (subst (λ n. m < n) (length-map sorted number) lt);
    }
