-- Which ready node comes first.
use Rattle.std.specs.Prelude.{◌<◌, ℕ}
use Rattle.check_order.specs.Edges.{node_at}
use Rattle.device_model.specs.Devices.{Device, view_in, IsNext, NoneReady}

-- the least ready node of the first queue that has one; host reads come after all queues
pub record IsFirst (d : Device) (n : ℕ) : Type 0 where
  pub next : IsNext d (node_at (view_in d).nodes n).queue n
  pub first : (queue : ℕ) → queue < (node_at (view_in d).nodes n).queue → NoneReady d queue

abbrev pub NothingReady : Device → Type 0
NothingReady d = (queue : ℕ) → NoneReady d queue
