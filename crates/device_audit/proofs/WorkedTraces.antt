-- Worked traces.
use Rattle.std.proofs.Common.{◌≡◌, ℕ, List, [], ◌∷◌, ◌++◌, Some, None, Ok, Err, refl, codes}
use Rattle.base.specs.CacheMoves.{cache_move}
use Rattle.base.specs.declared.cache_move.MoveKind.TheVariants.{WriteBack}
use Rattle.base.specs.declared.event.Event.TheVariants as events
use Rattle.device_audit.specs.TraceLines.{event_of, number_of}
use Rattle.device_audit.specs.Trace.{trace_of}
use Rattle.device_audit.specs.declared.trace.TraceError.TheVariants.{Text, Limit}

abbrev line : List ℕ → List ℕ
line text = text ++ 10 ∷ []

abbrev two : List ℕ
two = line (codes "events 2") ++ line (codes "begin 0") ++ line (codes "writeback 6 0 0 4")

two_events : trace_of two ≡ Ok (events.Begin 0 ∷ events.Move (cache_move WriteBack 6 0 0 4) ∷ [])
two_events = refl

empty_text : trace_of [] ≡ Err (Text 0)
empty_text = refl

line_is_missing : trace_of (line (codes "events 2") ++ line (codes "begin 0")) ≡ Err (Text 2)
line_is_missing = refl

line_too_many : trace_of (two ++ line (codes "host 5")) ≡ Err (Text 3)
line_too_many = refl

last_line_has_no_end : trace_of (line (codes "events 1") ++ codes "begin 0") ≡ Err (Text 1)
last_line_has_no_end = refl

too_many : trace_of (line (codes "events 65537")) ≡ Err (Limit 65537)
too_many = refl

leading_zero : number_of (codes "07") ≡ None
leading_zero = refl

greatest_number : number_of (codes "4294967295") ≡ Some 4294967295
greatest_number = refl

past_the_greatest : number_of (codes "4294967296") ≡ None
past_the_greatest = refl

other_word : event_of (codes "write 6 0 0 4") ≡ None
other_word = refl

two_spaces : event_of (codes "begin  0") ≡ None
two_spaces = refl
