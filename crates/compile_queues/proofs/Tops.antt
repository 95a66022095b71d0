-- Greatest sums by uses.
use Rattle.std.proofs.Common.{◌≡◌, ℕ, ◌+◌, ◌<◌, ◌≤◌, ◌==◌, ◌&&◌, ◌||◌, max, Bool, true, false, List, [], ◌∷◌, length, map, get_or, take, slice_get, if◌then◌else◌, refl, sym, ap, ap₂, subst, ◌∙◌, arith, inl, inr, ⊎_elim, zero-add}
use Rattle.std.specs.List.{All, filter, list_any, range_with_len, slice_range}
use Rattle.std.proofs.lemmas.Bool.{cases_lt, lt-ltb}
use Rattle.std.proofs.lemmas.List.{get_or_default, length-map, take_all}
use Rattle.std.proofs.lemmas.List.FromFn.{get_or-map-range_with_len, get_or-range_with_len, length-range_with_len}
use Rattle.std.proofs.lemmas.List.Elements.{All-filter}
use Rattle.compile_queues.specs.Internal.Spans.{AreWithin, is_by, no_span, precedes, span_at, steps, use_at}
use Rattle.compile_queues.specs.Internal.Sweep.{IsTop}
use Rattle.compile_queues.specs.Internal.Work.{places}
use Rattle.compile_queues.specs.Cost.{cost_at}
use Rattle.compile_queues.specs.declared.spans.Span.{Span}
use Rattle.compile_queues.proofs.Totals.{top_both, top_more, top_none, top_one, top_same}
use Rattle.compile_groups.specs.Uses.{no_use}
use Rattle.compile_groups.specs.declared.unit_use.Use.{Use}

-- by one use
pub top_use : (sums : List ℕ) (one : Use) (unit result : ℕ) (same : Bool) → same ≡ (one.unit == unit) → (same ≡ true → result ≡ cost_at sums one.command) → (same ≡ false → result ≡ 0) → IsTop (λ c. is_by unit c one) sums (length sums) result
top_use sums one unit result same is found none = by_test same refl
  where
    by_test : (b : Bool) → same ≡ b → IsTop (λ c. is_by unit c one) sums (length sums) result
    by_test true e = subst (IsTop (λ c. is_by unit c one) sums (length sums)) (sym (found e)) (top_same (λ c. one.command == c) (λ c. is_by unit c one) sums (length sums) (cost_at sums one.command) (λ c lt. ap (λ b. b && one.command == c) (sym e ∙ is)) (top_one one.command sums (slice_get sums one.command) refl))
    by_test false e = subst (IsTop (λ c. is_by unit c one) sums (length sums)) (sym (none e)) (top_none (λ c. is_by unit c one) sums (length sums) (λ c. ap (λ b. b && one.command == c) (sym is ∙ e)))

-- by the uses of a command, told among all uses

any_filter : (test p : ℕ → Bool) (xs : List ℕ) → list_any p (filter test xs) ≡ list_any (λ x. test x && p x) xs
any_filter test p [] = refl
any_filter test p (x ∷ xs) = go (test x) (any_filter test p xs)
  where
    go : (b : Bool) → list_any p (filter test xs) ≡ list_any (λ y. test y && p y) xs → list_any p (if b then x ∷ filter test xs else filter test xs) ≡ ((b && p x) || list_any (λ y. test y && p y) xs)
    go true e = ap (λ r. p x || r) e
    go false e = e

pub place_is : (uses : List Use) (costs : List ℕ) (all : List (List ℕ)) (d : ℕ) (list : List ℕ) → all ≡ map (places uses) (range_with_len 0 (length costs)) → d < length costs → list ≡ get_or all d list → list ≡ places uses d
place_is uses costs all d list is lt e = e ∙ ap (λ l. get_or l d list) is ∙ get_or-map-range_with_len (places uses) 0 (length costs) d d list lt (zero-add d)

below_range : (a n : ℕ) → All (λ j. j < a + n) (range_with_len a n)
below_range a n k d lt =
    let less : k < n = subst (λ m. k < m) (length-range_with_len a n) lt in
    subst (λ j. j < a + n) (sym (get_or-range_with_len a n k d less)) (omega (arith, less))

pub places_below : (uses : List Use) (d : ℕ) (list : List ℕ) → list ≡ places uses d → All (λ j. j < length uses) list
places_below uses d list is = subst (All (λ j. j < length uses)) (sym is) (All-filter (λ j. (use_at uses j).command == d) (λ j. j < length uses) (range_with_len 0 (length uses)) (subst (λ m. All (λ j. j < m) (range_with_len 0 (length uses))) (zero-add (length uses)) (below_range 0 (length uses))))

-- the steps to command d: along its queue, and by its uses
pub top_steps : (queues : List ℕ) (uses : List Use) (spans : List Span) (sums list : List ℕ) (d q along needed result : ℕ) → d < length queues → q ≡ get_or queues d 0 → list ≡ places uses d → IsTop (λ k. get_or queues k 0 == q) sums d along → IsTop (λ c. list_any (precedes uses spans c) list) sums d needed → result ≡ max along needed → IsTop (λ c. steps queues uses spans c d) sums d result
top_steps queues uses spans sums list d q along needed result lt is placed A N e =
    subst (IsTop (λ c. steps queues uses spans c d) sums d) (sym e) (top_same (λ k. (get_or queues k 0 == q) || list_any (precedes uses spans k) list) (λ c. steps queues uses spans c d) sums d (max along needed) same (top_both (λ k. get_or queues k 0 == q) (λ c. list_any (precedes uses spans c) list) sums d along needed A N))
  where
    same : (k : ℕ) → k < d → ((get_or queues k 0 == q) || list_any (precedes uses spans k) list) ≡ steps queues uses spans k d
    same k less =
        ap₂ (λ a b. a || b)
        (ap (λ x. get_or queues k 0 == x) is ∙ sym (ap₂ (λ a b. a && (b && get_or queues k 0 == get_or queues d 0)) (lt-ltb k d less) (lt-ltb d (length queues) lt)))
        (ap (list_any (precedes uses spans k)) placed ∙ any_filter (λ j. (use_at uses j).command == d) (precedes uses spans k) (range_with_len 0 (length uses)))

-- the greatest of all
pub greatest_more : (sums : List ℕ) (i most more : ℕ) → i < length sums → IsTop (λ k. true) sums i most → more ≡ max most (get_or sums i 0) → IsTop (λ k. true) sums (i + 1) more
greatest_more sums i most more lt T e = record {
  at_least = λ k less t. ⊎_elim (λ (before : k < i). let le : cost_at sums k ≤ most = T.at_least k before refl in omega (arith, e)) (λ (ge : i ≤ k). let same : k ≡ i = omega (arith, ge, less) in let at : cost_at sums k ≡ cost_at sums i = ap (cost_at sums) same in omega (arith, e)) (cases_lt k i);
  reached = ⊎_elim (λ (less : most < cost_at sums i). let is : more ≡ cost_at sums i = omega (arith, e) in inr (i, omega arith, refl, sym is)) (λ (ge : cost_at sums i ≤ most). let is : more ≡ most = omega (arith, e) in ⊎_elim (λ none. inl (is ∙ none)) (λ found. inr (found.0, (let before : found.0 < i = found.1 in omega arith), refl, found.3 ∙ sym is)) T.reached) (cases_lt most (cost_at sums i));
}

-- WALKS

pub in_more : (sums : List ℕ) (group : List Use) (unit i : ℕ) (default : Use) (most by more : ℕ) → i < length group → IsTop (λ c. list_any (is_by unit c) (take i group)) sums (length sums) most → IsTop (λ c. is_by unit c (get_or group i default)) sums (length sums) by → more ≡ max most by → IsTop (λ c. list_any (is_by unit c) (take (i + 1) group)) sums (length sums) more
in_more sums group unit i default most by more lt T O e = top_more (λ u c. is_by unit c u) group i default sums (length sums) most by more lt T O e

pub needed_more : (sums : List ℕ) (uses : List Use) (spans : List Span) (list : List ℕ) (i j most by more : ℕ) → i < length list → j ≡ get_or list i j → IsTop (λ c. list_any (precedes uses spans c) (take i list)) sums (length sums) most → IsTop (λ c. precedes uses spans c j) sums (length sums) by → more ≡ max most by → IsTop (λ c. list_any (precedes uses spans c) (take (i + 1) list)) sums (length sums) more
needed_more sums uses spans list i j most by more lt is T O e = top_more (λ k c. precedes uses spans c k) list i j sums (length sums) most by more lt T (subst (λ k. IsTop (λ c. precedes uses spans c k) sums (length sums) by) is O) e

-- all of a list
pub in_all : (sums : List ℕ) (group : List Use) (unit i most : ℕ) → length group ≤ i → IsTop (λ c. list_any (is_by unit c) (take i group)) sums (length sums) most → IsTop (λ c. list_any (is_by unit c) group) sums (length sums) most
in_all sums group unit i most le T = subst (λ us. IsTop (λ c. list_any (is_by unit c) us) sums (length sums) most) (take_all i group le) T

pub needed_all : (sums : List ℕ) (uses : List Use) (spans : List Span) (list : List ℕ) (i most : ℕ) → length list ≤ i → IsTop (λ c. list_any (precedes uses spans c) (take i list)) sums (length sums) most → IsTop (λ c. list_any (precedes uses spans c) list) sums (length sums) most
needed_all sums uses spans list i most le T = subst (λ js. IsTop (λ c. list_any (precedes uses spans c) js) sums (length sums) most) (take_all i list le) T

pub greatest_all : (sums : List ℕ) (i most : ℕ) → i ≤ length sums → length sums ≤ i → IsTop (λ k. true) sums i most → IsTop (λ k. true) sums (length sums) most
greatest_all sums i most le ge T = let e : i ≡ length sums = omega (arith, le, ge) in subst (λ n. IsTop (λ k. true) sums n most) e T

-- by one use, as its span tells
pub before_is : (sums : List ℕ) (uses : List Use) (spans : List Span) (j most : ℕ) (span : Span) (one : Use) (group : List Use) → j < length spans → j < length uses → span ≡ get_or spans j span → one ≡ get_or uses j one → group ≡ slice_range uses span.from span.to → IsTop (λ c. list_any (is_by one.unit c) group) sums (length sums) most → IsTop (λ c. precedes uses spans c j) sums (length sums) most
before_is sums uses spans j most span one group lt less is at part T =
    let here : span ≡ span_at spans j = is ∙ get_or_default spans j span no_span lt in
    let own : one ≡ use_at uses j = at ∙ get_or_default uses j one no_use less in
    let same : group ≡ slice_range uses (span_at spans j).from (span_at spans j).to = part ∙ ap (λ (s : Span). slice_range uses s.from s.to) here in
    subst (λ (u : Use). IsTop (λ c. list_any (is_by u.unit c) (slice_range uses (span_at spans j).from (span_at spans j).to)) sums (length sums) most) own (subst (λ us. IsTop (λ c. list_any (is_by one.unit c) us) sums (length sums) most) same T)

pub in_none : (sums : List ℕ) (group : List Use) (unit : ℕ) → IsTop (λ c. list_any (is_by unit c) (take 0 group)) sums (length sums) 0
in_none sums group unit = top_none (λ c. false) sums (length sums) (λ c. refl)

pub needed_none : (sums : List ℕ) (uses : List Use) (spans : List Span) (list : List ℕ) → IsTop (λ c. list_any (precedes uses spans c) (take 0 list)) sums (length sums) 0
needed_none sums uses spans list = top_none (λ c. false) sums (length sums) (λ c. refl)

pub greatest_none : (sums : List ℕ) → IsTop (λ k. true) sums 0 0
greatest_none sums = record { at_least = λ k lt e. absurd (omega (arith, lt)); reached = inl refl }

pub within_at : (uses : List Use) (spans : List Span) (j : ℕ) (span : Span) → AreWithin uses spans → j < length spans → span ≡ get_or spans j span → (span.from ≤ span.to) × (span.to ≤ length uses)
within_at uses spans j span W lt is = subst (λ (s : Span). (s.from ≤ s.to) × (s.to ≤ length uses)) (sym is) (W j span lt)

pub item_below : (list : List ℕ) (i j n : ℕ) → All (λ k. k < n) list → i < length list → j ≡ get_or list i j → j < n
item_below list i j n all lt is = subst (λ k. k < n) (sym is) (all i j lt)

pub places_there : (uses : List Use) (costs : List ℕ) (all : List (List ℕ)) (d : ℕ) → all ≡ map (places uses) (range_with_len 0 (length costs)) → d < length costs → d < length all
places_there uses costs all d is lt = subst (λ n. d < n) (sym (ap length is ∙ length-map (range_with_len 0 (length costs)) (places uses) ∙ length-range_with_len 0 (length costs))) lt

pub top_at : (queues : List ℕ) (uses : List Use) (spans : List Span) (sums list : List ℕ) (d along needed result : ℕ) → d < length queues → length sums ≡ d → list ≡ places uses d → IsTop (λ k. get_or queues k 0 == get_or queues d 0) sums d along → IsTop (λ c. list_any (precedes uses spans c) list) sums (length sums) needed → result ≡ max along needed → IsTop (λ c. steps queues uses spans c d) sums d result
top_at queues uses spans sums list d along needed result lt size is A N e = top_steps queues uses spans sums list d (get_or queues d 0) along needed result lt refl is A (subst (λ n. IsTop (λ c. list_any (precedes uses spans c) list) sums n needed) size N) e
