-- Lines of a trace.
use Rattle.std.specs.Prelude.{ℕ, List, [], ◌∷◌, ◌+◌, ◌-◌, ◌*◌, ◌==◌, ◌&&◌, nat_le, nat_lt, take, drop, length, codes, Bool, Option, Some, None, option_map, option_and_then, if◌then◌else◌}
use Rattle.std.specs.List.{position_or_len}
use Rattle.std.specs.Str.{bytes_eq}
use Rattle.base.specs.CacheMoves.{cache_move}
use Rattle.base.specs.declared.cache_move.CacheMove.{CacheMove}
use Rattle.base.specs.declared.cache_move.MoveKind.{MoveKind}
use Rattle.base.specs.declared.cache_move.MoveKind.TheVariants.{WriteBack, Fill, DropLine}
use Rattle.base.specs.declared.event.Event.{Event}
use Rattle.base.specs.declared.event.Event.TheVariants as events

-- NUMBERS

abbrev pub is_digit : ℕ → Bool
is_digit c = nat_le 48 c && nat_le c 57

-- the number that is written when the digit c follows the digits of n
abbrev pub longer : ℕ → ℕ → ℕ
longer n c = n * 10 + (c - 48)

-- the number that the digits write when they follow those of n, at most the greatest u32
abbrev pub digits_after : ℕ → List ℕ → Option ℕ
digits_after n [] = Some n
digits_after n (c ∷ cs) = if is_digit c && nat_le (longer n c) 4294967295 then digits_after (longer n c) cs else None

-- decimal digits without a leading zero
abbrev pub number_of : List ℕ → Option ℕ
number_of [] = None
number_of (c ∷ cs) = if c == 48 then (if length cs == 0 then Some 0 else None) else digits_after 0 (c ∷ cs)

-- WORDS

-- what stands before the first b, and what after it
pub record Cut : Type 0 where
  pub front : List ℕ
  pub rest : List ℕ

abbrev pub cut_in : ℕ → List ℕ → Cut
cut_in place text = record { front = take place text; rest = drop (place + 1) text }

abbrev pub place_of : ℕ → List ℕ → ℕ
place_of b text = position_or_len (λ x. x == b) text

-- none where there is no b
abbrev pub cut_at : ℕ → List ℕ → Option Cut
cut_at b text = if nat_lt (place_of b text) (length text) then Some (cut_in (place_of b text) text) else None

-- EVENTS

-- four numbers with a space between
abbrev pub move_of : MoveKind → List ℕ → Option CacheMove
move_of kind text =
    option_and_then (λ (a : Cut). option_and_then (λ (b : Cut). option_and_then (λ (c : Cut).
    option_and_then (λ agent. option_and_then (λ memory. option_and_then (λ start. option_map (λ len. cache_move kind agent memory start len)
    (number_of c.rest)) (number_of c.front)) (number_of b.front)) (number_of a.front))
    (cut_at 32 b.rest)) (cut_at 32 a.rest)) (cut_at 32 text)

abbrev pub kind_named : List ℕ → Option MoveKind
kind_named word =
    if bytes_eq word (codes "writeback") then Some WriteBack
    else if bytes_eq word (codes "fill") then Some Fill
    else if bytes_eq word (codes "drop") then Some DropLine
    else None

abbrev pub event_named : List ℕ → List ℕ → Option Event
event_named word text =
    if bytes_eq word (codes "begin") then option_map (λ node. events.Begin node) (number_of text)
    else if bytes_eq word (codes "end") then option_map (λ node. events.End node) (number_of text)
    else if bytes_eq word (codes "sync") then option_map (λ node. events.Sync node) (number_of text)
    else if bytes_eq word (codes "host") then option_map (λ node. events.Host node) (number_of text)
    else option_and_then (λ kind. option_map (λ m. events.Move m) (move_of kind text)) (kind_named word)

-- the event of a line
abbrev pub event_of : List ℕ → Option Event
event_of line = option_and_then (λ (c : Cut). event_named c.front c.rest) (cut_at 32 line)

-- the number of events that the first line tells
abbrev pub count_of : List ℕ → Option ℕ
count_of line = option_and_then (λ (c : Cut). if bytes_eq c.front (codes "events") then number_of c.rest else None) (cut_at 32 line)
