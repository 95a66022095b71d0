-- A trace has as many events as its first line tells, and these are no more than are read.
use Rattle.std.proofs.Common.{◌≡◌, ℕ, zero, suc, ◌≤◌, ◌==◌, nat_lt, Bool, true, false, List, [], length, Option, Some, None, Result, Ok, Err, IfOk, if◌then◌else◌, refl, ap, subst, arith}
use Rattle.std.proofs.lemmas.Bool.{ltb-false}
use Rattle.device_audit.specs.TraceLines.{Cut, count_of, cut_at}
use Rattle.device_audit.specs.Trace.{IsAnswer, Told, after_event, counted_events, events_from, first_event, lined_events, trace_of}
use Rattle.device_audit.specs.declared.trace.TraceError.{TraceError}
use Rattle.device_audit.specs.declared.trace.TraceError.TheVariants.{Text, Limit}
use Rattle.base.specs.declared.event.Event.{Event}

abbrev Many : ℕ → Result (List Event) TraceError → Type 0
Many n answer = IfOk answer (λ events. length events ≡ n)

abbrev Few : Result (List Event) TraceError → Type 0
Few answer = IfOk answer (λ events. length events ≤ 65536)

one_more : (n : ℕ) (event : Event) (answer : Result (List Event) TraceError) → Many n answer → Many (suc n) (after_event event answer)
one_more n event (Ok events) is = ap suc is
one_more n event (Err end) is = tt

none_left : (k : ℕ) (none : Bool) → Many 0 (if none then Ok [] else Err (Text k))
none_left k true = refl
none_left k false = tt

next_trace_line : (n k : ℕ) (line : Option Told) → ((text : List ℕ) → Many n (events_from n (suc k) text)) → Many (suc n) (elim line [ None ↦ Err (Text k) | Some told ↦ after_event told.event (events_from n (suc k) told.rest) ])
next_trace_line n k None rest = tt
next_trace_line n k (Some told) rest = one_more n told.event (events_from n (suc k) told.rest) (rest told.rest)

as_many : (n k : ℕ) (text : List ℕ) → Many n (events_from n k text)
as_many zero k text = none_left k (length text == 0)
as_many (suc n) k text = next_trace_line n k (first_event text) (λ rest. as_many n (suc k) rest)

weaker : (n : ℕ) (answer : Result (List Event) TraceError) → n ≤ 65536 → Many n answer → Few answer
weaker n (Ok events) le is = omega (arith, le, is)
weaker n (Err end) le is = tt

few_counted : (count : Option ℕ) (text : List ℕ) → Few (counted_events count text)
few_counted None text = tt
few_counted (Some n) text = by (nat_lt 65536 n) refl
  where
    by : (over : Bool) → nat_lt 65536 n ≡ over → Few (if over then Err (Limit n) else events_from n 1 text)
    by true e = tt
    by false e = weaker n (events_from n 1 text) (ltb-false 65536 n e) (as_many n 1 text)

few_lined : (cut : Option Cut) → Few (lined_events cut)
few_lined None = tt
few_lined (Some c) = few_counted (count_of c.front) c.rest

pub few_answered : (text : List ℕ) (answer : Result (List Event) TraceError) → IsAnswer (trace_of text) answer → Few answer
few_answered text (Ok events) is = subst Few is (few_lined (cut_at 10 text))
few_answered text (Err end) is = tt
