-- What a device did, as it is printed.
use Rattle.std.specs.Prelude.{ℕ, List, ◌++◌, length, codes}
use Rattle.std.specs.Fmt.{decimal}
use Rattle.std.specs.List.{flat_map}
use Rattle.base.specs.declared.cache_move.CacheMove.{CacheMove}
use Rattle.base.specs.declared.cache_move.MoveKind.{MoveKind}
use Rattle.base.specs.declared.cache_move.MoveKind.TheVariants.{WriteBack, Fill, DropLine}
use Rattle.base.specs.declared.event.Event.{Event}
use Rattle.base.specs.declared.event.Event.TheVariants.{Begin, End, Sync, Move, Host}
use Rattle.report.specs.Hazards.{number_field, two_numbers}

-- an event of a node
abbrev pub node_line : List ℕ → ℕ → List ℕ
node_line word node = word ++ number_field node ++ codes "\n"

abbrev pub move_word : MoveKind → List ℕ
move_word WriteBack = codes "writeback"
move_word Fill = codes "fill"
move_word DropLine = codes "drop"

-- a move of a cache: whose it is, and in which bytes of which memory
abbrev pub move_line : CacheMove → List ℕ
move_line m = move_word m.kind ++ two_numbers m.agent m.range.memory ++ two_numbers m.range.start m.range.len ++ codes "\n"

abbrev pub event_line : Event → List ℕ
event_line (Begin node) = node_line (codes "begin") node
event_line (End node) = node_line (codes "end") node
event_line (Sync node) = node_line (codes "sync") node
event_line (Host node) = node_line (codes "host") node
event_line (Move m) = move_line m

-- how many events there are, and each in its turn
abbrev pub trace_text : List Event → List ℕ
trace_text history = codes "events " ++ decimal (length history) ++ codes "\n" ++ flat_map event_line history
