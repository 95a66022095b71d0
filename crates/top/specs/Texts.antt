-- What is printed of read-backs and of a history.
use Rattle.std.specs.Prelude.{ℕ, List, [], Bool, true, false}
use Rattle.compile_file.specs.Exports.{in_turn}
use Rattle.base.specs.declared.event.Event.{Event}
use Rattle.report.specs.Readbacks.{readback_text}
use Rattle.report.specs.Traces.{trace_text}

-- so many read-backs; read-back k has the bytes of k
abbrev pub readbacks_text : (ℕ → List ℕ) → ℕ → List ℕ
readbacks_text bytes count = in_turn (λ k. readback_text k (bytes k)) count

-- the history, where it is asked for
abbrev pub traced : Bool → List Event → List ℕ
traced false history = []
traced true history = trace_text history
