-- Loops over numbers.
use Rattle.std.proofs.Common.{◌≡◌, ℕ, ◌+◌, ◌*◌, ◌%◌, ◌++◌, Bool, true, false, List, [], ◌∷◌, map, sym, ap, ◌∙◌, add-one, cond, arith}
use Rattle.std.specs.List.{filter, range_with_len}
use Rattle.std.proofs.lemmas.List.{map-append, append-nil}
use Rattle.std.proofs.lemmas.List.FromFn.{map-range_with_len_more}
use Rattle.base.proofs.Lists.{chosen_more}
use Rattle.frame_gen.specs.Operations.{drawn}

-- one entry more
pub entry_more : {X : Type 0} (f : ℕ → X) (list list' : List X) (i : ℕ) (x : X) → list ≡ map f (range_with_len 0 i) → x ≡ f i → list' ≡ list ++ x ∷ [] → list' ≡ map f (range_with_len 0 (i + 1))
entry_more f list list' i x so_far is grows =
    let e : 0 + i ≡ i = omega arith in
    grows ∙ ap (λ xs. xs ++ x ∷ []) so_far ∙ ap (λ y. map f (range_with_len 0 i) ++ y ∷ []) is ∙ sym (map-range_with_len_more f 0 i i e)

-- the number drawn next
pub drawn_more : (number i w w' : ℕ) → w ≡ drawn number i → w' ≡ (75 * w + 74) % 65537 → w' ≡ drawn number (i + 1)
drawn_more number i w w' is next = rw add-one (next ∙ ap (λ x. (75 * x + 74) % 65537) is)

-- a number more that passes the test, or one that does not
pub chosen_on : {X : Type 0} (f : ℕ → X) (test : ℕ → Bool) (list list' : List X) (i : ℕ) (x : X) → list ≡ map f (filter test (range_with_len 0 i)) → test i ≡ true → x ≡ f i → list' ≡ list ++ x ∷ [] → list' ≡ map f (filter test (range_with_len 0 (i + 1)))
chosen_on f test list list' i x so_far passed is grows =
    grows ∙ ap (λ xs. xs ++ x ∷ []) so_far ∙ ap (λ y. map f (filter test (range_with_len 0 i)) ++ y ∷ []) is
    ∙ sym (ap (map f) (chosen_more test i ∙ ap (λ b. filter test (range_with_len 0 i) ++ cond b (i ∷ []) []) passed) ∙ map-append f (filter test (range_with_len 0 i)) (i ∷ []))

pub passed_over : {X : Type 0} (f : ℕ → X) (test : ℕ → Bool) (list : List X) (i : ℕ) → list ≡ map f (filter test (range_with_len 0 i)) → test i ≡ false → list ≡ map f (filter test (range_with_len 0 (i + 1)))
passed_over f test list i so_far failed = so_far ∙ sym (ap (map f) (chosen_more test i ∙ ap (λ b. filter test (range_with_len 0 i) ++ cond b (i ∷ []) []) failed ∙ append-nil (filter test (range_with_len 0 i))))
