-- The choice while it is made.
use Rattle.std.specs.Prelude.{◌≡◌, ◌<◌, ◌≤◌, ℕ, List, true, length, slice_index_or}
use Rattle.compile_queues.specs.Choice.{Chosen}
use Rattle.compile_queues.specs.Cost.{IsFrameCost}
use Rattle.compile_queues.specs.Queues.{on_queues, serves}
use Rattle.frame.specs.Numbered.{NumberedFrame}
use Rattle.frame_cull.specs.Versions.{pass_at}

-- the queues once the first p passes have theirs, which all serve, and what the frame costs as given and now
pub record IsFound (frame : NumberedFrame) (p given : ℕ) (queues : List ℕ) (found : ℕ) : Type 0 where
  pub chosen : Chosen frame p queues
  pub count : length queues ≡ length frame.passes
  pub runs : (k : ℕ) → k < length frame.passes → serves frame.queues (pass_at frame k) (slice_index_or queues k 0) ≡ true
  pub at_first : IsFrameCost frame given
  pub now : IsFrameCost (on_queues queues frame) found
  pub less : found ≤ given
