-- A trace that is printed is read again.
use Rattle.std.proofs.Common.{◌≡◌, ℕ, zero, suc, ◌+◌, ◌-◌, ◌*◌, ◌/◌, ◌%◌, ◌^◌, ◌<◌, ◌≤◌, ◌==◌, ◌&&◌, nat_le, nat_lt, List, [], ◌∷◌, ◌++◌, length, drop, get_or, codes, decimal, Bool, true, false, Option, Some, None, Result, Ok, Err, option_map, option_and_then, if◌then◌else◌, refl, sym, ap, ap₂, ◌∙◌, append_assoc, arith}
use Rattle.std.specs.List.{flat_map}
use Rattle.std.specs.Str.Parse.{AllDigits}
use Rattle.std.proofs.lemmas.Bool.{lt-ltb, le-ltb, ne_eqb, eq-eqb}
use Rattle.std.proofs.lemmas.Bool.Decides.{nat_tests}
use Rattle.std.proofs.lemmas.Fmt.{decimal_digit, decimal_by_steps, decimal_is_IsNumeral, first_decimal}
use Rattle.std.proofs.lemmas.List.{length-append, take_at, drop_at}
use Rattle.std.proofs.lemmas.Str.Parse.{digit_from_value}
use Rattle.device_audit.specs.Again.{HasNumbers, HaveNumbers}
use Rattle.device_audit.specs.TraceLines.{count_of, cut_at, cut_in, place_of, digits_after, event_of, is_digit, longer, number_of, event_named, move_of}
use Rattle.device_audit.specs.Trace.{Told, after_event, counted_events, events_from, first_event, lined_events, told, trace_of}
use Rattle.device_audit.specs.declared.trace.TraceError.{TraceError}
use Rattle.device_audit.specs.declared.trace.TraceError.TheVariants.{Text}
use Rattle.base.specs.CacheMoves.{cache_move}
use Rattle.base.specs.declared.cache_move.CacheMove.{CacheMove}
use Rattle.base.specs.declared.cache_move.MoveKind.{MoveKind}
use Rattle.base.specs.declared.cache_move.MoveKind.TheVariants.{WriteBack, Fill, DropLine}
use Rattle.base.specs.declared.event.Event.{Event}
use Rattle.base.specs.declared.event.Event.TheVariants.{Begin, End, Sync, Move, Host}
use Rattle.report.specs.Hazards.{number_field, two_numbers}
use Rattle.report.specs.Traces.{event_line, node_line, move_line, move_word, trace_text}

-- NUMBERS

abbrev then_digit : Option ℕ → ℕ → Option ℕ
then_digit None c = None
then_digit (Some n) c = digits_after n (c ∷ [])

stop : (b : Bool) (n : ℕ) (cs : List ℕ) (c : ℕ) → ((m : ℕ) → digits_after m (cs ++ c ∷ []) ≡ then_digit (digits_after m cs) c) → (if b then digits_after n (cs ++ c ∷ []) else None) ≡ then_digit (if b then digits_after n cs else None) c
stop true n cs c more = more n
stop false n cs c more = refl

digit_more : (n : ℕ) (ds : List ℕ) (c : ℕ) → digits_after n (ds ++ c ∷ []) ≡ then_digit (digits_after n ds) c
digit_more n [] c = refl
digit_more n (d ∷ ds) c = stop (is_digit d && nat_le (longer n d) 4294967295) (longer n d) ds c (λ m. digit_more m ds c)

one_digit : (n c m : ℕ) → 48 ≤ c → c ≤ 57 → n * 10 + (c - 48) ≡ m → m < 2 ^ 32 → digits_after n (c ∷ []) ≡ Some m
one_digit n c m low high is small =
    let fits : (is_digit c && nat_le (longer n c) 4294967295) ≡ true = grind (arith, nat_tests, low, high, is, small) in
    rw fits (ap (λ x. Some x) is)

digits_again : (n : ℕ) → n < 2 ^ 64 → n < 2 ^ 32 → digits_after 0 (decimal n) ≡ Some n
digits_again = decimal_by_steps (λ n ds. n < 2 ^ 32 → digits_after 0 ds ≡ Some n)
    (λ n lt small. one_digit 0 (48 + n) n (omega arith) (omega arith) (omega arith) small)
    (λ n ds ge again small.
    digit_more 0 ds (48 + n % 10)
    ∙ ap (λ front. then_digit front (48 + n % 10)) (again (omega arith))
    ∙ one_digit (n / 10) (48 + n % 10) n (omega arith) (omega arith) (omega arith) small)

not_zero : (cs : List ℕ) → 48 < get_or cs 0 0 → number_of cs ≡ digits_after 0 cs
not_zero [] gt = absurd (omega arith)
not_zero (c ∷ cs) gt = rw (ne_eqb c 48 (omega arith)) refl

pub number_again : (n : ℕ) → n < 2 ^ 32 → number_of (decimal n) ≡ Some n
number_again zero small = rw (decimal_digit 0 (omega arith)) refl
number_again (suc n) small = not_zero (decimal (suc n)) (first_decimal (suc n) (omega arith) (omega arith)) ∙ digits_again (suc n) (omega arith) small

-- CUTS

-- it stands nowhere in the text
abbrev Free : ℕ → List ℕ → Type 0
Free b [] = Unit {0}
Free b (c ∷ cs) = ((c == b) ≡ false) × Free b cs

free_on : (b : ℕ) (xs ys : List ℕ) → Free b xs → Free b ys → Free b (xs ++ ys)
free_on b [] ys f g = g
free_on b (x ∷ xs) ys f g = (f.0, free_on b xs ys f.1 g)

digits_free : (b : ℕ) → b < 48 → (ds : List ℕ) → AllDigits 10 ds → Free b ds
digits_free b lt [] d = tt
digits_free b lt (c ∷ cs) d = (ne_eqb c b (omega (arith, digit_from_value c d.0)), digits_free b lt cs d.1)

number_free : (b n : ℕ) → b < 48 → n < 2 ^ 32 → Free b (decimal n)
number_free b n lt small = digits_free b lt (decimal n) (decimal_is_IsNumeral n (omega arith)).0.1

place_found : (b : ℕ) (front rest : List ℕ) → Free b front → place_of b (front ++ b ∷ rest) ≡ length front
place_found b [] rest free = rw (eq-eqb b b refl) refl
place_found b (c ∷ cs) rest free = rw (free.0) (let e : 1 + length cs ≡ suc (length cs) = omega arith in ap (λ n. 1 + n) (place_found b cs rest free.1) ∙ e)

pub cut_found : (b : ℕ) (front rest : List ℕ) → Free b front → cut_at b (front ++ b ∷ rest) ≡ Some (record { front = front; rest = rest })
cut_found b front rest free =
    let at = place_found b front rest free in
    let within : nat_lt (place_of b (front ++ b ∷ rest)) (length (front ++ b ∷ rest)) ≡ true = lt-ltb _ _ (omega (arith, at, length-append front (b ∷ rest))) in
    rw within (ap (λ place. Some (cut_in place (front ++ b ∷ rest))) at ∙ split)
  where
    split : Some (cut_in (length front) (front ++ b ∷ rest)) ≡ Some (record { front = front; rest = rest })
    split = ap₂ (λ f r. Some (record { front = f; rest = r })) (take_at front (b ∷ rest) (length front) refl) (ap (λ l. drop (length front + 1) l) (sym (append_assoc front (b ∷ []) rest)) ∙ drop_at (front ++ b ∷ []) rest (length front + 1) (length-append front (b ∷ [])))

-- EVENTS

node_told : (make : ℕ → Event) (n : ℕ) → n < 2 ^ 32 → option_map make (number_of (decimal n)) ≡ Some (make n)
node_told make n small = ap (option_map make) (number_again n small)

-- four numbers with a blank between
abbrev four : ℕ → ℕ → ℕ → ℕ → List ℕ
four a m s l = decimal a ++ 32 ∷ (decimal m ++ 32 ∷ (decimal s ++ 32 ∷ decimal l))

move_again : (kind : MoveKind) (a m s l : ℕ) → a < 2 ^ 32 → m < 2 ^ 32 → s < 2 ^ 32 → l < 2 ^ 32 → move_of kind (four a m s l) ≡ Some (cache_move kind a m s l)
move_again kind a m s l sa sm ss sl =
    ap (option_and_then _) (cut_found 32 (decimal a) (decimal m ++ 32 ∷ (decimal s ++ 32 ∷ decimal l)) (number_free 32 a (omega arith) sa))
    ∙ ap (option_and_then _) (cut_found 32 (decimal m) (decimal s ++ 32 ∷ decimal l) (number_free 32 m (omega arith) sm))
    ∙ ap (option_and_then _) (cut_found 32 (decimal s) (decimal l) (number_free 32 s (omega arith) ss))
    ∙ ap (option_and_then _) (number_again a sa)
    ∙ ap (option_and_then _) (number_again m sm)
    ∙ ap (option_and_then _) (number_again s ss)
    ∙ ap (option_map _) (number_again l sl)

-- a line without its end
abbrev words_of : Event → List ℕ
words_of (Begin n) = codes "begin" ++ 32 ∷ decimal n
words_of (End n) = codes "end" ++ 32 ∷ decimal n
words_of (Sync n) = codes "sync" ++ 32 ∷ decimal n
words_of (Host n) = codes "host" ++ 32 ∷ decimal n
words_of (Move m) = move_word m.kind ++ 32 ∷ four m.agent m.range.memory m.range.start m.range.len

-- no kind's word has a blank ..
blank_free : (kind : MoveKind) → Free 32 (move_word kind)
blank_free WriteBack = (refl, (refl, (refl, (refl, (refl, (refl, (refl, (refl, (refl, tt)))))))))
blank_free Fill = (refl, (refl, (refl, (refl, tt))))
blank_free DropLine = (refl, (refl, (refl, (refl, tt))))

-- .. or an end of line
end_free : (kind : MoveKind) → Free 10 (move_word kind)
end_free WriteBack = (refl, (refl, (refl, (refl, (refl, (refl, (refl, (refl, (refl, tt)))))))))
end_free Fill = (refl, (refl, (refl, (refl, tt))))
end_free DropLine = (refl, (refl, (refl, (refl, tt))))

named_again : (kind : MoveKind) (a m s l : ℕ) → a < 2 ^ 32 → m < 2 ^ 32 → s < 2 ^ 32 → l < 2 ^ 32 → event_named (move_word kind) (four a m s l) ≡ Some (Move (cache_move kind a m s l))
named_again WriteBack a m s l sa sm ss sl = ap (option_map (λ m. Move m)) (move_again WriteBack a m s l sa sm ss sl)
named_again Fill a m s l sa sm ss sl = ap (option_map (λ m. Move m)) (move_again Fill a m s l sa sm ss sl)
named_again DropLine a m s l sa sm ss sl = ap (option_map (λ m. Move m)) (move_again DropLine a m s l sa sm ss sl)

event_again : (event : Event) → HasNumbers event → event_of (words_of event) ≡ Some event
event_again (Begin n) small = rw (cut_found 32 (codes "begin") (decimal n) ((refl, (refl, (refl, (refl, (refl, tt))))))) (node_told Begin n small)
event_again (End n) small = rw (cut_found 32 (codes "end") (decimal n) ((refl, (refl, (refl, tt))))) (node_told End n small)
event_again (Sync n) small = rw (cut_found 32 (codes "sync") (decimal n) ((refl, (refl, (refl, (refl, tt)))))) (node_told Sync n small)
event_again (Host n) small = rw (cut_found 32 (codes "host") (decimal n) ((refl, (refl, (refl, (refl, tt)))))) (node_told Host n small)
event_again (Move m) (sa, sm, ss, sl) =
    rw (cut_found 32 (move_word m.kind) (four m.agent m.range.memory m.range.start m.range.len) (blank_free m.kind))
    (named_again m.kind m.agent m.range.memory m.range.start m.range.len sa sm ss sl)

-- LINES

move_words : (m : CacheMove) (rest : List ℕ) → move_line m ++ rest ≡ words_of (Move m) ++ 10 ∷ rest
move_words move rest =
    let word = move_word move.kind in
    let a = move.agent in
    let m = move.range.memory in
    let s = move.range.start in
    let l = move.range.len in
    append_assoc ((word ++ two_numbers a m) ++ two_numbers s l) (codes "\n") rest
    ∙ ap (λ front. front ++ 10 ∷ rest) (append_assoc word (two_numbers a m) (two_numbers s l) ∙ ap (λ numbers. word ++ numbers) (append_assoc (number_field a) (number_field m) (two_numbers s l)))

node_words : (word : List ℕ) (n : ℕ) (rest : List ℕ) → node_line word n ++ rest ≡ (word ++ 32 ∷ decimal n) ++ 10 ∷ rest
node_words word n rest = append_assoc (word ++ number_field n) (codes "\n") rest

line_words : (event : Event) (rest : List ℕ) → event_line event ++ rest ≡ words_of event ++ 10 ∷ rest
line_words (Begin n) rest = node_words (codes "begin") n rest
line_words (End n) rest = node_words (codes "end") n rest
line_words (Sync n) rest = node_words (codes "sync") n rest
line_words (Host n) rest = node_words (codes "host") n rest
line_words (Move m) rest = move_words m rest

after_blank : (n : ℕ) → n < 2 ^ 32 → Free 10 (32 ∷ decimal n)
after_blank n small = (refl, number_free 10 n (omega arith) small)

four_free : (a m s l : ℕ) → a < 2 ^ 32 → m < 2 ^ 32 → s < 2 ^ 32 → l < 2 ^ 32 → Free 10 (32 ∷ four a m s l)
four_free a m s l sa sm ss sl = (refl, free_on 10 (decimal a) (32 ∷ (decimal m ++ 32 ∷ (decimal s ++ 32 ∷ decimal l))) (number_free 10 a (omega arith) sa) (refl, free_on 10 (decimal m) (32 ∷ (decimal s ++ 32 ∷ decimal l)) (number_free 10 m (omega arith) sm) (refl, free_on 10 (decimal s) (32 ∷ decimal l) (number_free 10 s (omega arith) ss) (refl, number_free 10 l (omega arith) sl))))

one_line : (event : Event) → HasNumbers event → Free 10 (words_of event)
one_line (Begin n) small = free_on 10 (codes "begin") (32 ∷ decimal n) (refl, (refl, (refl, (refl, (refl, tt))))) (after_blank n small)
one_line (End n) small = free_on 10 (codes "end") (32 ∷ decimal n) (refl, (refl, (refl, tt))) (after_blank n small)
one_line (Sync n) small = free_on 10 (codes "sync") (32 ∷ decimal n) (refl, (refl, (refl, (refl, tt)))) (after_blank n small)
one_line (Host n) small = free_on 10 (codes "host") (32 ∷ decimal n) (refl, (refl, (refl, (refl, tt)))) (after_blank n small)
one_line (Move m) (sa, sm, ss, sl) = free_on 10 (move_word m.kind) (32 ∷ four m.agent m.range.memory m.range.start m.range.len) (end_free m.kind) (four_free m.agent m.range.memory m.range.start m.range.len sa sm ss sl)

line_again : (event : Event) (rest : List ℕ) → HasNumbers event → first_event (event_line event ++ rest) ≡ Some (record { event = event; rest = rest })
line_again event rest has =
    ap first_event (line_words event rest)
    ∙ ap (option_and_then told) (cut_found 10 (words_of event) rest (one_line event has))
    ∙ ap (option_map (λ e. record { event = e; rest = rest })) (event_again event has)

-- TRACES

abbrev line_then : ℕ → ℕ → Option Told → Result (List Event) TraceError
line_then n k line = elim line [ None ↦ Err (Text k) | Some told ↦ after_event told.event (events_from n (suc k) told.rest) ]

all_again : (events : List Event) (k : ℕ) → HaveNumbers events → events_from (length events) k (flat_map event_line events) ≡ Ok events
all_again [] k have = refl
all_again (event ∷ events) k (has, have) =
    ap (line_then (length events) k) (line_again event (flat_map event_line events) has)
    ∙ ap (after_event event) (all_again events (suc k) have)

first_line : (n : ℕ) → n < 2 ^ 32 → count_of (codes "events " ++ decimal n) ≡ Some n
first_line n small =
    ap (option_and_then _) (cut_found 32 (codes "events") (decimal n) (refl, (refl, (refl, (refl, (refl, (refl, tt)))))))
    ∙ number_again n small

first_free : (n : ℕ) → n < 2 ^ 32 → Free 10 (codes "events " ++ decimal n)
first_free n small = free_on 10 (codes "events ") (decimal n) (refl, (refl, (refl, (refl, (refl, (refl, (refl, tt))))))) (number_free 10 n (omega arith) small)

counted_again : (n : ℕ) (text : List ℕ) → n ≤ 65536 → counted_events (Some n) text ≡ events_from n 1 text
counted_again n text le = rw (le-ltb 65536 n le) refl

pub read_again : (events : List Event) → length events ≤ 65536 → HaveNumbers events → trace_of (trace_text events) ≡ Ok events
read_again events few have =
    let n = length events in
    let trace_lines = flat_map event_line events in
    ap trace_of (append_assoc (codes "events " ++ decimal n) (codes "\n") trace_lines)
    ∙ ap lined_events (cut_found 10 (codes "events " ++ decimal n) trace_lines (first_free n (omega (arith, few))))
    ∙ ap (λ count. counted_events count trace_lines) (first_line n (omega (arith, few)))
    ∙ counted_again n trace_lines few
    ∙ all_again events 1 have
