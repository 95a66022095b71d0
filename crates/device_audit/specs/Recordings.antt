-- A submission in one line and a trace behind it.
use Rattle.std.specs.Prelude.{ℕ, List, []}
use Rattle.std.specs.Option.{option_map_or}
use Rattle.device_audit.specs.TraceLines.{Cut, cut_at}

-- the bytes before the first line feed, or all where there is none
abbrev pub submission_in : List ℕ → List ℕ
submission_in bytes = option_map_or (λ (c : Cut). c.front) (cut_at 10 bytes) bytes

-- those after it
abbrev pub trace_in : List ℕ → List ℕ
trace_in bytes = option_map_or (λ (c : Cut). c.rest) (cut_at 10 bytes) []
