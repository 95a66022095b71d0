-- The choice of queues: pass by pass in declared order, each by the cost of the whole frame.
use Rattle.std.specs.Prelude.{◌≡◌, ◌≢◌, ◌⊎◌, ◌<◌, ◌≤◌, ◌+◌, ℕ, List, true, length, slice_index_or, slice_set}
use Rattle.compile_queues.specs.Cost.{IsFrameCost}
use Rattle.compile_queues.specs.Queues.{on_queues, queues_of, serves}
use Rattle.compile_queues.specs.Renamed.{frame_on}
use Rattle.frame.specs.Numbered.{NumberedFrame, numbered}
use Rattle.frame.specs.declared.frame.Frame.{Frame}
use Rattle.frame_cull.specs.Versions.{pass_at}

-- what the frame costs with its passes on these queues, but pass p on queue q
abbrev pub Costs : NumberedFrame → List ℕ → ℕ → ℕ → ℕ → Type 0
Costs frame qs p q cost = IsFrameCost (on_queues (slice_set qs p q) frame) cost

-- where passes are on these queues, queue q for pass p: among those on which all its operations run one with the least
-- cost, its present queue before all others, then the least number
pub record IsPick (frame : NumberedFrame) (qs : List ℕ) (p q : ℕ) : Type 0 where
  pub runs : serves frame.queues (pass_at frame p) q ≡ true
  pub cost : ℕ
  pub is_cost : Costs frame qs p q cost
  pub least : (other more : ℕ) → serves frame.queues (pass_at frame p) other ≡ true → Costs frame qs p other more → cost ≤ more
  pub first : (other : ℕ) → serves frame.queues (pass_at frame p) other ≡ true → Costs frame qs p other cost → (q ≡ slice_index_or qs p 0) ⊎ ((other ≢ slice_index_or qs p 0) × (q ≤ other))

-- the queues of all passes, once the first p have those that are picked for them
pub data Chosen (frame : NumberedFrame) : ℕ → List ℕ → Type 0 where
  given : Chosen frame 0 (queues_of frame)
  one_more : {p : ℕ} {qs : List ℕ} {q : ℕ} → Chosen frame p qs → p < length frame.passes → IsPick frame qs p q → Chosen frame (p + 1) (slice_set qs p q)

-- the same frame with its passes on some queues
abbrev pub DiffersInQueues : NumberedFrame → NumberedFrame → Type 0
DiffersInQueues frame other = (qs : List ℕ) × (other ≡ on_queues qs frame)

-- the frame with each pass on the queue that is picked for it, and nothing else changed
pub record IsChoice (frame chosen : Frame) : Type 0 where
  pub queues : List ℕ
  pub picked : Chosen (numbered frame) (length (numbered frame).passes) queues
  pub is : chosen ≡ frame_on queues frame
