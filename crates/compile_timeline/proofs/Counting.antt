-- Signals that are counted.
use Rattle.std.proofs.Common.{◌≡◌, ◌≢◌, ◌⊎◌, inl, inr, ℕ, suc, ◌+◌, ◌<◌, ◌≤◌, ◌==◌, ◌&&◌, ◌||◌, if◌then◌else◌, Bool, true, false, List, length, get_or, set, Option, Some, None, refl, sym, ap, ◌∙◌, subst, eq-eqb, add-one, arith}
use Rattle.std.specs.Option.{option_map_or}
use Rattle.std.specs.Prelude.{slice_get}
use Rattle.std.proofs.Math.ListN.{length-set}
use Rattle.std.proofs.lemmas.Bool.{cases_Bool, cases_eq, and_parts, ne_eqb}
use Rattle.std.proofs.lemmas.List.{get_or-set_same, get_or-set_other}
use Rattle.std.proofs.lemmas.Option.{slice_get-get_or}
use Rattle.program.specs.declared.program.Item as programs
use Rattle.compile_timeline.proofs.Below.{count_few}
use Rattle.compile_timeline.proofs.Latest.{has_there, item_queue}
use Rattle.compile_timeline.specs.Below.{count_below}
use Rattle.compile_timeline.specs.Internal.Counts.{HasLasts, HasCounts}
use Rattle.compile_timeline.specs.Signals.{is_awaited, is_last, has_signal, value_at}
use Rattle.compile_timeline.specs.Steps.{queue_of, queue_at, is_item, has_item, IsScript}
use Rattle.compile_timeline.specs.Waits.{last_item}
use Rattle.compile_timeline.specs.declared.step.Step.{Step}
use Rattle.compile_timeline.specs.declared.step.Step.TheVariants.{Item, Need}

-- each step is of a queue that is there
pub queue_known : (script : List Step) (count i : ℕ) → IsScript script count → i < length script → queue_at script i < count
queue_known script count i K lt = go (slice_get script i) refl
  where
    go : (o : Option Step) → slice_get script i ≡ o → queue_at script i < count
    go None e = absurd (none (slice_get-get_or script i (Need 0 0) lt))
      where
        none : slice_get script i ≡ Some (get_or script i (Need 0 0)) → ⊥
        none h = let z : ◌≡◌ {A = Option Step} None (Some (get_or script i (Need 0 0))) = sym e ∙ h in absurd cc
    go (Some (Item q item)) e = subst (λ z. z < count) (sym (ap (λ o. option_map_or queue_of o 0) e)) (K.items i q (has_there script q i item e))
    go (Some (Need q j)) e = subst (λ z. z < count) (sym (ap (λ o. option_map_or queue_of o 0) e)) (K.needs i q j e)

-- LAST ITEMS

pub last_item_here : (script : List Step) (count i q : ℕ) (item : programs.Item) (old new : List ℕ) → HasLasts script count i old → slice_get script i ≡ Some (Item q item) → new ≡ set old q (i + 1) → HasLasts script count (i + 1) new
last_item_here script count i q item old new L e is = rw add-one (record { size = ap length is ∙ length-set old q (i + 1) ∙ L.size; is = λ r lt. at r lt (cases_eq r q) })
  where
    step : (r : ℕ) → last_item script r (suc i) ≡ (if q == r then suc i else last_item script r i)
    step r = ap (λ o. if option_map_or (is_item r) o false then suc i else last_item script r i) e

    at : (r : ℕ) → r < count → (r ≡ q) ⊎ (r ≡ q → ⊥) → get_or new r 0 ≡ last_item script r (suc i)
    at r lt (inl same) =
        let size = L.size in
        ap (λ l. get_or l r 0) is
        ∙ ap (λ z. get_or (set old q (i + 1)) z 0) same
        ∙ get_or-set_same old q (i + 1) 0 (omega (arith, size, same, lt))
        ∙ add-one i
        ∙ sym (step r ∙ ap (λ b. if b then suc i else last_item script r i) (eq-eqb q r (sym same)))
    at r lt (inr ne) =
        ap (λ l. get_or l r 0) is
        ∙ get_or-set_other old q r (i + 1) 0 ne
        ∙ L.is r lt
        ∙ sym (step r ∙ ap (λ b. if b then suc i else last_item script r i) (ne_eqb q r (λ z. ne (sym z))))

pub last_need_here : (script : List Step) (count i q j : ℕ) (old : List ℕ) → HasLasts script count i old → slice_get script i ≡ Some (Need q j) → HasLasts script count (i + 1) old
last_need_here script count i q j old L e = rw add-one (record { size = L.size; is = λ r lt. L.is r lt ∙ sym (ap (λ o. if option_map_or (is_item r) o false then suc i else last_item script r i) e) })

-- SIGNALS

pub signalled_item : (script : List Step) (count i q : ℕ) (item : programs.Item) (lasts : List ℕ) (awaited : Bool) → IsScript script count → HasLasts script count (length script) lasts → slice_get script i ≡ Some (Item q item) → awaited ≡ is_awaited script count i → (awaited || (get_or lasts q 0 == i + 1)) ≡ has_signal script count (queue_at script i) i
signalled_item script count i q item lasts awaited K L e a =
    let h = has_there script q i item e in
    let same = item_queue script q i h in
    ap (λ b. b || (get_or lasts q 0 == i + 1)) a
    ∙ ap (λ z. is_awaited script count i || (z == i + 1)) (L.is q (K.items i q h))
    ∙ ap (λ z. is_awaited script count i || (last_item script q (length script) == z)) (add-one i)
    ∙ ap (λ z. is_awaited script count i || (last_item script z (length script) == suc i)) (sym same)
    ∙ sym (ap (λ b. b && (is_awaited script count i || is_last script i)) (ap (λ z. has_item script z i) same ∙ h))

pub signalled_need : (script : List Step) (count i q j : ℕ) → slice_get script i ≡ Some (Need q j) → has_signal script count (queue_at script i) i ≡ false
signalled_need script count i q j e = ap (λ o. option_map_or (is_item (queue_at script i)) o false && (is_awaited script count i || is_last script i)) e

-- COUNTS

-- other queues have no signal here
elsewhere : (script : List Step) (count i r : ℕ) → r ≢ queue_at script i → has_signal script count r i ≡ false
elsewhere script count i r ne = go (cases_Bool (has_signal script count r i))
  where
    go : (has_signal script count r i ≡ true) ⊎ (has_signal script count r i ≡ false) → has_signal script count r i ≡ false
    go (inr f) = f
    go (inl t) = absurd (ne (sym (item_queue script r i (and_parts (has_item script r i) (is_awaited script count i || is_last script i) t).0)))

pub count_room : (script : List Step) (count i q : ℕ) (counts : List ℕ) → HasCounts script count i counts → q < count → get_or counts q 0 ≤ i
count_room script count i q counts C lt = let e = C.is q lt in let f = count_few (has_signal script count q) i in omega (arith, e, f)

pub count_here : (script : List Step) (count i q : ℕ) (old new : List ℕ) → HasCounts script count i old → q ≡ queue_at script i → has_signal script count (queue_at script i) i ≡ true → new ≡ set old q (get_or old q 0 + 1) → HasCounts script count (i + 1) new
count_here script count i q old new C here t is = rw add-one (record { size = ap length is ∙ length-set old q (get_or old q 0 + 1) ∙ C.size; is = λ r lt. at r lt (cases_eq r q) })
  where
    at : (r : ℕ) → r < count → (r ≡ q) ⊎ (r ≡ q → ⊥) → get_or new r 0 ≡ count_below (has_signal script count r) (suc i)
    at r lt (inl same) =
        let size = C.size in
        ap (λ l. get_or l r 0) is
        ∙ ap (λ z. get_or (set old q (get_or old q 0 + 1)) z 0) same
        ∙ get_or-set_same old q (get_or old q 0 + 1) 0 (omega (arith, size, same, lt))
        ∙ add-one (get_or old q 0)
        ∙ ap (λ z. suc (get_or old z 0)) (sym same)
        ∙ ap suc (C.is r lt)
        ∙ sym (ap (λ z. if z then suc (count_below (has_signal script count r) i) else count_below (has_signal script count r) i) (ap (λ z. has_signal script count z i) (same ∙ here) ∙ t))
    at r lt (inr ne) =
        ap (λ l. get_or l r 0) is
        ∙ get_or-set_other old q r (get_or old q 0 + 1) 0 ne
        ∙ C.is r lt
        ∙ sym (ap (λ z. if z then suc (count_below (has_signal script count r) i) else count_below (has_signal script count r) i) (elsewhere script count i r (λ z. ne (z ∙ sym here))))

pub count_none : (script : List Step) (count i : ℕ) (counts : List ℕ) → HasCounts script count i counts → has_signal script count (queue_at script i) i ≡ false → HasCounts script count (i + 1) counts
count_none script count i counts C f = rw add-one (record { size = C.size; is = λ r lt. C.is r lt ∙ sym (ap (λ z. if z then suc (count_below (has_signal script count r) i) else count_below (has_signal script count r) i) (none r (cases_eq r (queue_at script i)))) })
  where
    none : (r : ℕ) → (r ≡ queue_at script i) ⊎ (r ≡ queue_at script i → ⊥) → has_signal script count r i ≡ false
    none r (inl same) = ap (λ z. has_signal script count z i) same ∙ f
    none r (inr ne) = elsewhere script count i r ne

pub counted_value : (script : List Step) (count i q : ℕ) (counts : List ℕ) → HasCounts script count (i + 1) counts → q ≡ queue_at script i → q < count → get_or counts q 0 ≡ value_at script count i
counted_value script count i q counts C here lt = C.is q lt ∙ ap (λ z. count_below (has_signal script count z) (i + 1)) here ∙ ap (count_below (has_signal script count (queue_at script i))) (add-one i)
