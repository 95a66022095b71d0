-- Greatest sums, one number further.
use Rattle.std.proofs.Common.{◌≡◌, ℕ, ◌+◌, ◌*◌, ◌<◌, ◌≤◌, ◌==◌, ◌||◌, ◌++◌, ◌⊎◌, inl, inr, List, [], ◌∷◌, length, get_or, slice_get, slice_set, take, replicate, max, Bool, true, false, Option, refl, sym, ap, subst, ◌∙◌, arith, ⊎_elim, eq-eqb, eqb-true}
use Rattle.std.specs.List.{list_any}
use Rattle.std.proofs.lemmas.Bool.{cases_Bool, cases_lt}
use Rattle.std.proofs.lemmas.List.{get_or-replicate, get_or-set_other, get_or-set_same, get_or_append_left, get_or_past, length-append, length-replicate, length-set, get_or_push}
use Rattle.std.proofs.lemmas.List.Folds.{list_any_more}
use Rattle.compile_queues.specs.Internal.Sweep.{AreOn, AreSums, EndsAt, GoesForward, IsTop}
use Rattle.compile_queues.specs.Cost.{AreBelow, IsCost, IsPath, cost_at, sum_of}

below_or_at : (k i : ℕ) → k < i + 1 → (k < i) ⊎ (k ≡ i)
below_or_at k i lt = ⊎_elim (λ less. inl less) (λ ge. inr (omega (arith, ge, lt))) (cases_lt k i)

-- THE GREATEST SUM SO FAR

pub top_none : (test : ℕ → Bool) (sums : List ℕ) (n : ℕ) → ((k : ℕ) → test k ≡ false) → IsTop test sums n 0
top_none test sums n none = record { at_least = λ k lt e. absurd (no (sym e ∙ none k)); reached = inl refl }
  where
    no : true ≡ false → ⊥
    no f = cc

-- of two tests
pub top_both : (test other : ℕ → Bool) (sums : List ℕ) (n a b : ℕ) → IsTop test sums n a → IsTop other sums n b → IsTop (λ k. test k || other k) sums n (max a b)
top_both test other sums n a b A B = record {
  at_least = λ k lt e. ⊎_elim (λ t. let le : cost_at sums k ≤ a = A.at_least k lt t in omega arith) (λ f. let le : cost_at sums k ≤ b = B.at_least k lt (second k e f) in omega arith) (cases_Bool (test k));
  reached = ⊎_elim (λ (less : a < b). of_second (let e : max a b ≡ b = omega arith in e) B.reached) (λ (ge : b ≤ a). of_first (let e : max a b ≡ a = omega arith in e) A.reached) (cases_lt a b);
}
  where
    second : (k : ℕ) → (test k || other k) ≡ true → test k ≡ false → other k ≡ true
    second k e f = sym (ap (λ t. t || other k) f) ∙ e

    first_true : (k : ℕ) → test k ≡ true → (test k || other k) ≡ true
    first_true k t = ap (λ b. b || other k) t

    second_true : (k : ℕ) → other k ≡ true → (test k || other k) ≡ true
    second_true k t = ap (λ b. test k || b) t ∙ always (test k)
      where
        always : (b : Bool) → (b || true) ≡ true
        always true = refl
        always false = refl

    of_first : max a b ≡ a → (a ≡ 0) ⊎ ((k : ℕ) × (k < n) × (test k ≡ true) × (cost_at sums k ≡ a)) → (max a b ≡ 0) ⊎ ((k : ℕ) × (k < n) × ((test k || other k) ≡ true) × (cost_at sums k ≡ max a b))
    of_first e (inl none) = inl (e ∙ none)
    of_first e (inr found) = inr (found.0, found.1, first_true found.0 found.2, found.3 ∙ sym e)

    of_second : max a b ≡ b → (b ≡ 0) ⊎ ((k : ℕ) × (k < n) × (other k ≡ true) × (cost_at sums k ≡ b)) → (max a b ≡ 0) ⊎ ((k : ℕ) × (k < n) × ((test k || other k) ≡ true) × (cost_at sums k ≡ max a b))
    of_second e (inl none) = inl (e ∙ none)
    of_second e (inr found) = inr (found.0, found.1, second_true found.0 found.2, found.3 ∙ sym e)

-- the same test below n
pub top_same : (test other : ℕ → Bool) (sums : List ℕ) (n most : ℕ) → ((k : ℕ) → k < n → test k ≡ other k) → IsTop test sums n most → IsTop other sums n most
top_same test other sums n most same T = record {
  at_least = λ k lt e. T.at_least k lt (same k lt ∙ e);
  reached = ⊎_elim (λ none. inl none) (λ found. inr (found.0, found.1, sym (same found.0 found.1) ∙ found.2, found.3)) T.reached;
}

-- one number alone, where it is there
pub top_one : (c : ℕ) (sums : List ℕ) (found : Option ℕ) → slice_get sums c ≡ found → IsTop (λ k. c == k) sums (length sums) (cost_at sums c)
top_one c sums found at = record {
  at_least = λ k lt e. let same : c ≡ k = eqb-true c k e in ap_le k same;
  reached = ⊎_elim (λ lt. inr (c, lt, eq-eqb c c refl, refl)) (λ ge. inl (get_or_past sums c 0 ge)) (cases_lt c (length sums));
}
  where
    ap_le : (k : ℕ) → c ≡ k → cost_at sums k ≤ cost_at sums c
    ap_le k same = subst (λ j. cost_at sums j ≤ cost_at sums c) same (omega arith)

-- one element more of a list
pub top_more : {X : Type 0} (by : X → ℕ → Bool) (xs : List X) (i : ℕ) (d : X) (sums : List ℕ) (n most one more : ℕ) → i < length xs → IsTop (λ k. list_any (λ x. by x k) (take i xs)) sums n most → IsTop (by (get_or xs i d)) sums n one → more ≡ max most one → IsTop (λ k. list_any (λ x. by x k) (take (i + 1) xs)) sums n more
top_more by xs i d sums n most one more lt T O e =
    subst (IsTop (λ k. list_any (λ x. by x k) (take (i + 1) xs)) sums n) (sym e)
    (top_same (λ k. list_any (λ x. by x k) (take i xs) || by (get_or xs i d) k) (λ k. list_any (λ x. by x k) (take (i + 1) xs)) sums n (max most one) (λ k less. sym (list_any_more (λ x. by x k) xs i d lt)) (top_both (λ k. list_any (λ x. by x k) (take i xs)) (by (get_or xs i d)) sums n most one T O))

-- A NUMBER MORE

old_sum : (sums : List ℕ) (sum k : ℕ) → k < length sums → cost_at (sums ++ sum ∷ []) k ≡ cost_at sums k
old_sum sums sum k lt = get_or_append_left sums (sum ∷ []) 0 k lt

-- its sum, where it passes the test
pub top_push : (test : ℕ → Bool) (sums : List ℕ) (i most sum more : ℕ) → length sums ≡ i → IsTop test sums i most → (test i ≡ true → more ≡ max most sum) → (test i ≡ false → more ≡ most) → IsTop test (sums ++ sum ∷ []) (i + 1) more
top_push test sums i most sum more size T passes fails = by_test (test i) refl
  where
    new : cost_at (sums ++ sum ∷ []) i ≡ sum
    new = get_or_push sums sum 0 i size

    old : (k : ℕ) → k < i → cost_at (sums ++ sum ∷ []) k ≡ cost_at sums k
    old k lt = old_sum sums sum k (subst (λ n. k < n) (sym size) lt)

    by_test : (b : Bool) → test i ≡ b → IsTop test (sums ++ sum ∷ []) (i + 1) more
    by_test true t = record {
      at_least = λ k lt e. ⊎_elim (λ less. let le : cost_at sums k ≤ most = T.at_least k less e in let is : cost_at (sums ++ sum ∷ []) k ≡ cost_at sums k = old k less in omega (arith, passes t)) (λ same. let is : cost_at (sums ++ sum ∷ []) k ≡ sum = ap (cost_at (sums ++ sum ∷ [])) same ∙ new in omega (arith, passes t)) (below_or_at k i lt);
      reached = ⊎_elim (λ (less : most < sum). let is : more ≡ sum = (let e = passes t in omega arith) in inr (i, omega arith, t, new ∙ sym is)) (λ (ge : sum ≤ most). let is : more ≡ most = (let e = passes t in omega arith) in ⊎_elim (λ none. inl (is ∙ none)) (λ found. inr (found.0, (let lt : found.0 < i = found.1 in omega arith), found.2, old found.0 found.1 ∙ found.3 ∙ sym is)) T.reached) (cases_lt most sum);
    }
    by_test false t = record {
      at_least = λ k lt e. ⊎_elim (λ less. let le : cost_at sums k ≤ most = T.at_least k less e in let is : cost_at (sums ++ sum ∷ []) k ≡ cost_at sums k = old k less in omega (arith, fails t)) (λ same. absurd (no (sym (subst (λ j. test j ≡ true) same e) ∙ t))) (below_or_at k i lt);
      reached = ⊎_elim (λ none. inl (fails t ∙ none)) (λ found. inr (found.0, (let lt : found.0 < i = found.1 in omega arith), found.2, old found.0 found.1 ∙ found.3 ∙ sym (fails t))) T.reached;
    }
      where
        no : true ≡ false → ⊥
        no f = cc

-- QUEUES

pub on_none : (queues on : List ℕ) (count : ℕ) → on ≡ replicate count 0 → AreOn queues [] on count 0
on_none queues on count is = record {
  size = ap length is ∙ length_all count;
  each = λ q lt. subst (IsTop (λ k. get_or queues k 0 == q) [] 0) (sym (ap (λ l. get_or l q 0) is ∙ get_or-replicate count q 0 0 lt)) (record { at_least = λ k less e. absurd (omega (arith, less)); reached = inl refl });
}
  where
    length_all : (n : ℕ) → length {A = ℕ} (replicate n 0) ≡ n
    length_all n = length-replicate {A = ℕ} n 0

pub on_more : (queues sums on more_sums more : List ℕ) (count i sum queue : ℕ) → AreOn queues sums on count i → length sums ≡ i → queue ≡ get_or queues i 0 → queue < count → get_or on queue 0 ≤ sum → more_sums ≡ sums ++ sum ∷ [] → more ≡ slice_set on queue sum → AreOn queues more_sums more count (i + 1)
on_more queues sums on more_sums more count i sum queue O size is within less grown set =
    record {
      size = ap length set ∙ length-set on queue sum ∙ O.size;
      each = λ q lt. subst (λ list. IsTop (λ k. get_or queues k 0 == q) list (i + 1) (get_or more q 0)) (sym grown) (top_push (λ k. get_or queues k 0 == q) sums i (get_or on q 0) sum (get_or more q 0) size (O.each q lt)
          (λ t. let at : queue ≡ q = is ∙ eqb-true (get_or queues i 0) q t in let new : get_or more q 0 ≡ sum = here q at in let low : get_or on q 0 ≤ sum = subst (λ k. get_or on k 0 ≤ sum) at less in omega arith)
          (λ f. there q (λ e. no (sym (eq-eqb (get_or queues i 0) q (sym is ∙ e)) ∙ f))));
    }
  where
    no : true ≡ false → ⊥
    no f = cc

    here : (q : ℕ) → queue ≡ q → get_or more q 0 ≡ sum
    here q at = ap (λ l. get_or l q 0) set ∙ ap (λ k. get_or (slice_set on queue sum) k 0) (sym at) ∙ get_or-set_same on queue sum 0 (subst (λ n. queue < n) (sym O.size) within)

    there : (q : ℕ) → (queue ≡ q → ⊥) → get_or more q 0 ≡ get_or on q 0
    there q ne = ap (λ l. get_or l q 0) set ∙ get_or-set_other on queue q sum 0 (λ e. ne (sym e))

-- THE SUMS SO FAR

pub sums_none : (step : ℕ → ℕ → Bool) (costs : List ℕ) → AreSums step costs [] 0
sums_none step costs = record { count = refl; each = λ k lt. absurd (omega (arith, lt)); small = λ k lt. absurd (omega (arith, lt)) }

pub top_small : (step : ℕ → ℕ → Bool) (costs sums : List ℕ) (i most : ℕ) → AreSums step costs sums i → IsTop (λ k. step k i) sums i most → most ≤ i * 36028797018963969
top_small step costs sums i most S M = ⊎_elim (λ none. omega arith) (λ found. let le : cost_at sums found.0 ≤ (found.0 + 1) * 36028797018963969 = S.small found.0 found.1 in let less : found.0 < i = found.1 in let same : cost_at sums found.0 ≡ most = found.3 in omega arith) M.reached

module _ (step : ℕ → ℕ → Bool) (costs sums : List ℕ) (i most : ℕ) (forward : GoesForward step) (lt : i < length costs) (S : AreSums step costs sums i) (M : IsTop (λ k. step k i) sums i most) where
  abbrev cost : ℕ
  cost = cost_at costs i

  longest : EndsAt step costs i (cost + most)
  longest = ⊎_elim alone on M.reached
    where
      bounded : (other : List ℕ) → AreBelow (length costs) other → IsPath step (i ∷ other) → sum_of costs (i ∷ other) ≤ cost + most
      bounded [] within path = omega arith
      bounded (k ∷ other) within path =
          let less : k < i = forward k i path.0 in
          let old : sum_of costs (k ∷ other) ≤ cost_at sums k = (S.each k less).greatest other within.1 path.1 in
          let most_is : cost_at sums k ≤ most = M.at_least k less path.0 in
          omega arith

      alone : most ≡ 0 → EndsAt step costs i (cost + most)
      alone none = record { path = []; within = tt; is_path = tt; costs_it = omega (arith, none); greatest = bounded }

      on : ((k : ℕ) × (k < i) × (step k i ≡ true) × (cost_at sums k ≡ most)) → EndsAt step costs i (cost + most)
      on found =
          let E = S.each found.0 found.1 in
          let less : found.0 < length costs = (let small : found.0 < i = found.1 in omega arith) in
          let rest : sum_of costs (found.0 ∷ E.path) ≡ most = E.costs_it ∙ found.3 in
          record { path = found.0 ∷ E.path; within = (less, E.within); is_path = (found.2, E.is_path); costs_it = ap (λ b. cost + b) rest; greatest = bounded }

pub sums_more : (step : ℕ → ℕ → Bool) (costs sums more : List ℕ) (i most sum : ℕ) → GoesForward step → i < length costs → AreSums step costs sums i → IsTop (λ k. step k i) sums i most → get_or costs i 0 ≤ 36028797018963969 → sum ≡ get_or costs i 0 + most → more ≡ sums ++ sum ∷ [] → AreSums step costs more (i + 1)
sums_more step costs sums more i most sum forward lt S M small e grown =
    subst (λ list. AreSums step costs list (i + 1)) (sym grown) (record {
      count = length-append sums (sum ∷ []) ∙ ap (λ n. n + 1) S.count;
      each = λ k less. ⊎_elim (λ before. subst (EndsAt step costs k) (sym (old k before)) (S.each k before)) (λ same. subst (λ j. EndsAt step costs j (cost_at (sums ++ sum ∷ []) j)) (sym same) (subst (EndsAt step costs i) (sym e ∙ sym new) (longest step costs sums i most forward lt S M))) (below_or_at k i less);
      small = λ k less. ⊎_elim (λ before. subst (λ s. s ≤ (k + 1) * 36028797018963969) (sym (old k before)) (S.small k before)) (λ same. let at_most : most ≤ i * 36028797018963969 = top_small step costs sums i most S M in let value : cost_at (sums ++ sum ∷ []) k ≡ sum = ap (cost_at (sums ++ sum ∷ [])) same ∙ new in omega arith) (below_or_at k i less);
    })
  where
    old : (k : ℕ) → k < i → cost_at (sums ++ sum ∷ []) k ≡ cost_at sums k
    old k before = old_sum sums sum k (subst (λ n. k < n) (sym S.count) before)

    new : cost_at (sums ++ sum ∷ []) i ≡ sum
    new = get_or_push sums sum 0 i S.count

-- the greatest of all sums
pub cost_is : (step : ℕ → ℕ → Bool) (costs sums : List ℕ) (most : ℕ) → AreSums step costs sums (length costs) → IsTop (λ k. true) sums (length sums) most → IsCost step costs most
cost_is step costs sums most S M = ⊎_elim none found M.reached
  where
    bounded : (other : List ℕ) → AreBelow (length costs) other → IsPath step other → sum_of costs other ≤ most
    bounded [] within path = omega arith
    bounded (k ∷ other) within path =
        let here : sum_of costs (k ∷ other) ≤ cost_at sums k = (S.each k within.0).greatest other within.1 path in
        let there : cost_at sums k ≤ most = M.at_least k (subst (λ n. k < n) (sym S.count) within.0) refl in
        omega arith

    none : most ≡ 0 → IsCost step costs most
    none e = record { path = []; within = tt; is_path = tt; sum = sym e; greatest = bounded }

    found : ((k : ℕ) × (k < length sums) × (true ≡ true) × (cost_at sums k ≡ most)) → IsCost step costs most
    found f =
        let less : f.0 < length costs = subst (λ n. f.0 < n) S.count f.1 in
        let E = S.each f.0 less in
        record { path = f.0 ∷ E.path; within = (less, E.within); is_path = E.is_path; sum = E.costs_it ∙ f.3; greatest = bounded }
