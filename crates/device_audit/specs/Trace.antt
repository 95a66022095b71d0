-- The text of a trace: a line with the number of events, and a line for each of them. Every line ends with a line feed.
use Rattle.std.specs.Prelude.{◌≡◌, ℕ, zero, suc, List, [], ◌∷◌, ◌==◌, nat_lt, length, Option, Some, None, option_map, option_and_then, Result, Ok, Err, if◌then◌else◌}
use Rattle.base.specs.declared.event.Event.{Event}
use Rattle.device_audit.specs.TraceLines.{Cut, count_of, cut_at, event_of}
use Rattle.device_audit.specs.declared.trace.TraceError.{TraceError}
use Rattle.device_audit.specs.declared.trace.TraceError.TheVariants.{Text, Limit, NoMemory}

-- an event before those that were read
abbrev pub after_event : Event → Result (List Event) TraceError → Result (List Event) TraceError
after_event event (Ok events) = Ok (event ∷ events)
after_event event (Err end) = Err end

-- an event, and the text after its line
pub record Told : Type 0 where
  pub event : Event
  pub rest : List ℕ

abbrev pub told : Cut → Option Told
told c = option_map (λ event. record { event = event; rest = c.rest }) (event_of c.front)

-- the event of the first line; none where there is no line, or it tells no event
abbrev pub first_event : List ℕ → Option Told
first_event text = option_and_then told (cut_at 10 text)

-- so many events from line k on, and nothing after them; the first line that does not fit, or is missing
abbrev pub events_from : ℕ → ℕ → List ℕ → Result (List Event) TraceError
events_from zero k text = if length text == 0 then Ok [] else Err (Text k)
events_from (suc n) k text = elim (first_event text) [ None ↦ Err (Text k) | Some line ↦ after_event line.event (events_from n (suc k) line.rest) ]

-- the events of a trace whose first line tells so many
abbrev pub counted_events : Option ℕ → List ℕ → Result (List Event) TraceError
counted_events None text = Err (Text 0)
counted_events (Some n) text = if nat_lt 65536 n then Err (Limit n) else events_from n 1 text

abbrev pub lined_events : Option Cut → Result (List Event) TraceError
lined_events None = Err (Text 0)
lined_events (Some c) = counted_events (count_of c.front) c.rest

-- the events of a trace, or what is wrong with it
abbrev pub trace_of : List ℕ → Result (List Event) TraceError
trace_of text = lined_events (cut_at 10 text)

-- what was read, or what is wrong; want of memory says nothing of the text
abbrev pub IsAnswer : Result (List Event) TraceError → Result (List Event) TraceError → Type 0
IsAnswer right (Ok events) = right ≡ Ok events
IsAnswer right (Err (Text line)) = right ≡ Err (Text line)
IsAnswer right (Err (Limit events)) = right ≡ Err (Limit events)
IsAnswer right (Err NoMemory) = Unit {0}
