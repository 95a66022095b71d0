-- A trace, one line further.
use Rattle.std.proofs.Common.{◌≡◌, ℕ, suc, ◌+◌, ◌-◌, ◌<◌, ◌≤◌, ◌==◌, ◌++◌, List, [], ◌∷◌, length, true, Option, Some, None, Result, Ok, Err, if◌then◌else◌, refl, sym, ap, ap₂, ◌∙◌, append_assoc, arith}
use Rattle.std.proofs.lemmas.List.{append-nil}
use Rattle.base.specs.declared.event.Event.{Event}
use Rattle.device_audit.specs.Internal.Reading.{after_events}
use Rattle.device_audit.specs.Trace.{Told, after_event, events_from, first_event}
use Rattle.device_audit.specs.declared.trace.TraceError.{TraceError}
use Rattle.device_audit.specs.declared.trace.TraceError.TheVariants.{Text}

none_before : (answer : Result (List Event) TraceError) → after_events [] answer ≡ answer
none_before (Ok events) = refl
none_before (Err end) = refl

one_more : (events : List Event) (event : Event) (answer : Result (List Event) TraceError) → after_events events (after_event event answer) ≡ after_events (events ++ event ∷ []) answer
one_more events event (Ok more) = ap (λ all. Ok all) (sym (append_assoc events (event ∷ []) more))
one_more events event (Err end) = refl

abbrev line_then : ℕ → ℕ → Option Told → Result (List Event) TraceError
line_then n k line = elim line [ None ↦ Err (Text k) | Some told ↦ after_event told.event (events_from n (suc k) told.rest) ]

left_over : (count k : ℕ) → k < count → count - k ≡ suc (count - (k + 1))
left_over count k lt = omega arith

module _ (count k : ℕ) (events : List Event) (rest : List ℕ) (total : Result (List Event) TraceError) (lt : k < count) (so_far : after_events events (events_from (count - k) (k + 1) rest) ≡ total) where
  next : after_events events (line_then (count - (k + 1)) (k + 1) (first_event rest)) ≡ total
  next = ap (λ n. after_events events (events_from n (k + 1) rest)) (sym (left_over count k lt)) ∙ so_far

  pub line_read : (event : Event) (after : List ℕ) (more : List Event) → first_event rest ≡ Some (record { event = event; rest = after }) → more ≡ events ++ event ∷ [] → after_events more (events_from (count - (k + 1)) ((k + 1) + 1) after) ≡ total
  line_read event after more is grown =
      let e : suc (k + 1) ≡ (k + 1) + 1 = omega arith in
      ap₂ (λ all i. after_events all (events_from (count - (k + 1)) i after)) grown (sym e)
      ∙ sym (one_more events event (events_from (count - (k + 1)) (suc (k + 1)) after))
      ∙ ap (λ line. after_events events (line_then (count - (k + 1)) (k + 1) line)) (sym is)
      ∙ next

  pub line_missing : first_event rest ≡ None → total ≡ Err (Text (k + 1))
  line_missing is = sym next ∙ ap (λ line. after_events events (line_then (count - (k + 1)) (k + 1) line)) is

module _ (count k : ℕ) (events : List Event) (rest : List ℕ) (total : Result (List Event) TraceError) (le : k ≤ count) (end : count ≤ k) (so_far : after_events events (events_from (count - k) (k + 1) rest) ≡ total) where
  at_end : after_events events (if length rest == 0 then Ok [] else Err (Text (count + 1))) ≡ total
  at_end = let n : count - k ≡ 0 = omega arith in let i : k + 1 ≡ count + 1 = omega arith in ap₂ (λ m j. after_events events (events_from m j rest)) (sym n) (sym i) ∙ so_far

  pub all_read : (length rest == 0) ≡ true → total ≡ Ok events
  all_read none = sym at_end ∙ ap (λ b. after_events events (if b then Ok [] else Err (Text (count + 1)))) none ∙ ap (λ all. Ok all) (append-nil events)
