-- Between which numbers queues have nodes that are not done.
use Rattle.std.specs.Prelude.{◌≡◌, ℕ, ◌<◌, ◌≤◌, List, length, get_or, true}
use Rattle.device_nodes.specs.declared.spans.Spans.{Spans}
use Rattle.device_model.specs.States.{is_done}
use Rattle.device_model.specs.declared.phase.Phase.{Phase}
use Rattle.check_access.specs.Views.{View, queue_at}

abbrev pub from_of : Spans → ℕ → ℕ
from_of spans q = get_or spans.from q 0

-- where nothing is known of a queue, it may have any node
abbrev pub to_of : View → Spans → ℕ → ℕ
to_of V spans q = get_or spans.to q (length V.nodes)

-- of the first `count` nodes each is below the end of its queue
pub record Ends (V : View) (count : ℕ) (ends : List ℕ) : Type 0 where
  pub few : (q : ℕ) → get_or ends q (length V.nodes) ≤ length V.nodes
  pub above : (n : ℕ) → n < count → n < get_or ends (queue_at V n) (length V.nodes)

-- no node of a queue is above its span, and those below are done
pub record Spanned (V : View) (phase : ℕ → Phase) (spans : Spans) : Type 0 where
  pub ends : Ends V (length V.nodes) spans.to
  pub done : (n : ℕ) → n < from_of spans (queue_at V n) → is_done (phase n) ≡ true
