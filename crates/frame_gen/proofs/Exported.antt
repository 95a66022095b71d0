-- The exports of a generated frame.
use Rattle.std.proofs.Common.{◌≡◌, ◌≢◌, ℕ, zero, suc, ◌+◌, ◌/◌, ◌%◌, ◌==◌, ◌||◌, ◌<◌, ◌≤◌, ◌++◌, Bool, true, false, List, [], ◌∷◌, length, cond, refl, sym, subst, arith}
use Rattle.std.specs.List.{All, AllPairs, filter, range_with_len}
use Rattle.std.proofs.lemmas.Bool.{eqb-true}
use Rattle.std.proofs.lemmas.List.{length-append}
use Rattle.std.proofs.lemmas.List.Elements.{All-filter}
use Rattle.std.proofs.lemmas.List.Kept.{AllPairs-filter}
use Rattle.base.proofs.Lists.{chosen_more}
use Rattle.frame_gen.specs.Generated.{is_exported, exported}
use Rattle.frame_gen.proofs.Numbering.{range_below, range_differs}

module _ (n : ℕ) where
  -- of the resources before this one
  abbrev chosen : ℕ → List ℕ
  chosen m = filter (is_exported n) (range_with_len 0 m)

  chosen_next : (m : ℕ) → chosen (suc m) ≡ chosen m ++ cond (is_exported n m) (m ∷ []) []
  chosen_next m = let e : m + 1 ≡ suc m = omega arith in subst (λ k. chosen k ≡ chosen m ++ cond (is_exported n m) (m ∷ []) []) e (chosen_more (is_exported n) m)

  one_more : (m : ℕ) → length (chosen (suc m)) ≤ length (chosen m) + 1
  one_more m = subst (λ xs. length xs ≤ length (chosen m) + 1) (sym (chosen_next m)) (by_test (is_exported n m))
    where
      by_test : (t : Bool) → length (chosen m ++ cond t (m ∷ []) []) ≤ length (chosen m) + 1
      by_test true = let size = length-append (chosen m) (m ∷ []) in omega (arith, size)
      by_test false = let size = length-append (chosen m) [] in omega (arith, size)

  -- without the last one a sixteenth of all
  few_before : (m : ℕ) → m < n → length (chosen m) ≤ m / 16
  few_before zero lt = omega arith
  few_before (suc m) lt = subst (λ xs. length xs ≤ suc m / 16) (sym (chosen_next m)) (by_tests (few_before m (omega (arith, lt))) (m % 16 == 15) (m + 1 == n) refl refl)
    where
      by_tests : length (chosen m) ≤ m / 16 → (t u : Bool) → (m % 16 == 15) ≡ t → (m + 1 == n) ≡ u → length (chosen m ++ cond (t || u) (m ∷ []) []) ≤ suc m / 16
      by_tests before true u e f =
          let is = eqb-true (m % 16) 15 e in
          let size = length-append (chosen m) (m ∷ []) in
          omega (arith, before, is, size)
      by_tests before false true e f = let is = eqb-true (m + 1) n f in absurd (omega (arith, is, lt))
      by_tests before false false e f =
          let size = length-append (chosen m) [] in
          omega (arith, before, size)

few_of : (n m : ℕ) → n ≡ m → n ≤ 256 → length (filter (is_exported n) (range_with_len 0 m)) ≤ 32
few_of n zero is few = omega arith
few_of n (suc m) is few =
    let before = few_before n m (omega (arith, is)) in
    let more = one_more n m in
    omega (arith, before, more, is, few)

pub few_exported : (n : ℕ) → n ≤ 256 → length (exported n) ≤ 32
few_exported n few = few_of n n refl few

pub exported_small : (n : ℕ) → All (λ x. x < n) (exported n)
exported_small n = All-filter (is_exported n) (λ x. x < n) (range_with_len 0 n) (range_below n)

pub exported_differ : (n : ℕ) → AllPairs (λ x y. x ≢ y) (exported n)
exported_differ n = AllPairs-filter (λ x y. x ≢ y) (is_exported n) (range_with_len 0 n) (range_differs n)
