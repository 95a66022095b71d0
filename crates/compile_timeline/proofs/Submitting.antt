-- What a queue has of one step is added.
use Rattle.std.proofs.Common.{◌≡◌, ◌⊎◌, inl, inr, ℕ, suc, ◌+◌, ◌-◌, ◌<◌, nat_lt, if◌then◌else◌, true, false, List, [], ◌∷◌, ◌++◌, length, get_or, Some, sym, ap, ◌∙◌, subst, append-nil, add-one, arith}
use Rattle.std.specs.List.{range_with_len}
use Rattle.std.specs.Prelude.{slice_get}
use Rattle.std.proofs.lemmas.Bool.{cases_Bool, ltb-true}
use Rattle.std.proofs.lemmas.List.FromFn.{length-range_with_len, get_or-map-range_with_len}
use Rattle.std.proofs.lemmas.List.{length-map}
use Rattle.std.proofs.lemmas.Option.{slice_get_within}
use Rattle.vk.specs.Stages.{all_commands}
use Rattle.program.specs.declared.program.Item as programs
use Rattle.compile_timeline.proofs.Below.{same_below}
use Rattle.compile_timeline.proofs.Latest.{has_there, item_within, item_queue, latest_low, LastAt, last_cases, last_after}
use Rattle.compile_timeline.proofs.Placed.{item_parts_at, no_parts, ends}
use Rattle.compile_timeline.proofs.Writing.{closed_batches}
use Rattle.compile_timeline.specs.Batches.{cut}
use Rattle.compile_timeline.specs.Internal.Counts.{signals_of}
use Rattle.compile_timeline.specs.Internal.Submissions.{nothing, with_rest, Adds, IsClosed, ClosedAt, needed_wait, needed_waits, signal_at, item_parts}
use Rattle.compile_timeline.specs.Internal.Walks.{is_new, Knows}
use Rattle.compile_timeline.specs.Parts.{Waits, Does, Signals, when, wait_for, waits_at, parts_at, parts}
use Rattle.compile_timeline.specs.Signals.{has_signal, value_at}
use Rattle.compile_timeline.specs.Steps.{queue_at, has_item}
use Rattle.compile_timeline.specs.Waits.{latest, last_item, waits}
use Rattle.compile_timeline.specs.declared.needs.Needs.{Needs}
use Rattle.compile_timeline.specs.declared.signals.Signals as noted
use Rattle.compile_timeline.specs.declared.step.Step.{Step}
use Rattle.compile_timeline.specs.declared.step.Step.TheVariants.{Item}
use Rattle.compile_timeline.specs.declared.submission.Submission.{Submission}

pub noted_size : (script : List Step) (count : ℕ) → length (signals_of script count).values ≡ length script
noted_size script count = length-map (range_with_len 0 (length script)) (value_at script count) ∙ length-range_with_len 0 (length script)

value_noted : (script : List Step) (count i : ℕ) → i < length script → get_or (signals_of script count).values i 0 ≡ value_at script count i
value_noted script count i lt = get_or-map-range_with_len (value_at script count) 0 (length script) i i 0 lt (omega arith)

signal_noted : (script : List Step) (count i : ℕ) → i < length script → get_or (signals_of script count).signalled i false ≡ has_signal script count (queue_at script i) i
signal_noted script count i lt = get_or-map-range_with_len (λ k. has_signal script count (queue_at script k) k) 0 (length script) i i false lt (omega arith)

-- the waits before an item
same_waits : (script : List Step) (q i count : ℕ) (needs : Needs) → Knows script q i needs → count ≡ length needs.latest → i < length script → needed_waits needs (signals_of script count).values count ≡ waits_at script count q i
same_waits script q i count needs K size li = same_below (λ p. when (is_new needs p) (Waits (needed_wait needs (signals_of script count).values p))) (λ p. when (waits script q i p) (Waits (wait_for script count q i p))) count (λ p lt. one p (omega (arith, lt, size)) (cases_Bool (waits script q i p)))
  where
    values : List ℕ
    values = (signals_of script count).values

    new : (p : ℕ) → p < length needs.latest → is_new needs p ≡ waits script q i p
    new p lt = ap (λ z. nat_lt (get_or needs.stood p 0) z) (K.needed p lt) ∙ ap (λ z. nat_lt z (latest script q p i)) (K.settled p lt)

    one : (p : ℕ) → p < length needs.latest → (waits script q i p ≡ true) ⊎ (waits script q i p ≡ false) → when (is_new needs p) (Waits (needed_wait needs values p)) ≡ when (waits script q i p) (Waits (wait_for script count q i p))
    one p lt (inr f) = ap (λ b. when b (Waits (needed_wait needs values p))) (new p lt ∙ f) ∙ sym (ap (λ b. when b (Waits (wait_for script count q i p))) f)
    one p lt (inl t) =
        let more = ltb-true (latest script q p (last_item script q i)) (latest script q p i) t in
        let low = latest_low script (length needs.latest) q p i K.steps in
        let value : get_or values (get_or needs.latest p 0 - 1) 0 ≡ value_at script count (latest script q p i - 1) = ap (λ z. get_or values (z - 1) 0) (K.needed p lt) ∙ value_noted script count (latest script q p i - 1) (omega (arith, more, low, li)) in
        ap (λ b. when b (Waits (needed_wait needs values p))) (new p lt)
        ∙ ap (λ v. when (waits script q i p) (Waits (record { queue = p; value = v; stages = record { 0 = all_commands } }))) value

pub same_parts : (script : List Step) (q i count : ℕ) (needs : Needs) (signals : noted.Signals) (item : programs.Item) → Knows script q i needs → count ≡ length needs.latest → signals ≡ signals_of script count → slice_get script i ≡ Some (Item q item) → item_parts needs signals i item ≡ parts_at script count q i
same_parts script q i count needs signals item K size is e =
    let li = slice_get_within script i (Item q item) e in
    let here = item_queue script q i (has_there script q i item e) in
    ap (λ s. item_parts needs s i item) is
    ∙ ap (λ n. needed_waits needs (signals_of script count).values n ++ Does item ∷ when (get_or (signals_of script count).signalled i false) (Signals (signal_at (signals_of script count).values i))) (sym size)
    ∙ ap (λ ps. ps ++ Does item ∷ when (get_or (signals_of script count).signalled i false) (Signals (signal_at (signals_of script count).values i))) (same_waits script q i count needs K size li)
    ∙ ap (λ b. waits_at script count q i ++ Does item ∷ when b (Signals (signal_at (signals_of script count).values i))) (signal_noted script count i li ∙ ap (λ z. has_signal script count z i) here)
    ∙ ap (λ v. waits_at script count q i ++ Does item ∷ when (has_signal script count q i) (Signals (record { value = v; stages = record { 0 = all_commands } }))) (value_noted script count i li)
    ∙ sym (item_parts_at script count q i item e)

-- an item is added
pub added_item : (script : List Step) (q i count : ℕ) (needs : Needs) (signals : noted.Signals) (item : programs.Item) (old new : Submission) → Knows script q i needs → count ≡ length needs.latest → signals ≡ signals_of script count → slice_get script i ≡ Some (Item q item) → Adds old new (item_parts needs signals i item) → Adds old new (parts_at script count q i)
added_item script q i count needs signals item old new K size is e added = subst (λ ps. Adds old new ps) (same_parts script q i count needs signals item K size is e) added

-- nothing is added
pub added_none : (script : List Step) (q i count : ℕ) (old : Submission) → has_item script q i ≡ false → Adds old old (parts_at script count q i)
added_none script q i count old f rest = sym (ap (λ ps. with_rest old (ps ++ rest)) (no_parts script count q i f))

-- OPEN BATCHES

pub closed_item : (script : List Step) (q i count : ℕ) (signals : noted.Signals) (item : programs.Item) (new : Submission) → signals ≡ signals_of script count → slice_get script i ≡ Some (Item q item) → (get_or signals.signalled i false ≡ true → IsClosed new) → ClosedAt script count q (i + 1) new
closed_item script q i count signals item new is e closed = rw add-one (record {
  empty = λ z. absurd (no z);
  signalled = λ j same s. closed (let here : i ≡ j = omega (arith, same, last) in noted_here ∙ ap (has_signal script count q) here ∙ s);
})
  where
    h : has_item script q i ≡ true
    h = has_there script q i item e

    last : last_item script q (suc i) ≡ suc i
    last = ap (λ z. if z then suc i else last_item script q i) h

    no : last_item script q (suc i) ≡ 0 → ⊥
    no z = let l = last in omega (arith, l, z)

    noted_here : get_or signals.signalled i false ≡ has_signal script count q i
    noted_here = ap (λ s. get_or s.signalled i false) is ∙ signal_noted script count i (slice_get_within script i (Item q item) e) ∙ ap (λ z. has_signal script count z i) (item_queue script q i h)

pub closed_none : (script : List Step) (q i count : ℕ) (old : Submission) → has_item script q i ≡ false → ClosedAt script count q i old → ClosedAt script count q (i + 1) old
closed_none script q i count old f C = rw add-one (record {
  empty = λ z. C.empty (sym last ∙ z);
  signalled = λ j same s. C.signalled j (sym last ∙ same) s;
})
  where
    last : last_item script q (suc i) ≡ last_item script q i
    last = ap (λ z. if z then suc i else last_item script q i) f

-- THE WHOLE QUEUE

pub all_added : (script : List Step) (q count : ℕ) (submission : Submission) → Adds nothing submission (parts script count q) → ClosedAt script count q (length script) submission → submission.batches ≡ cut (parts script count q)
all_added script q count submission added C = sym (closed_batches submission (closed (last_cases script q (length script)))) ∙ added [] ∙ ap cut (append-nil (parts script count q))
  where
    closed : (last_item script q (length script) ≡ 0) ⊎ LastAt script q (length script) → IsClosed submission
    closed (inl z) = C.empty z
    closed (inr A) = C.signalled A.item A.is (ends script count q A.item A.has (λ k lt. later k lt))
      where
        later : (k : ℕ) → A.item < k → has_item script q k ≡ false
        later k lt = go (cases_Bool (has_item script q k))
          where
            go : (has_item script q k ≡ true) ⊎ (has_item script q k ≡ false) → has_item script q k ≡ false
            go (inr f) = f
            go (inl t) = let r = last_after script q k (length script) (item_within script q k t) t in let a = A.is in absurd (omega (arith, r, a, lt))
