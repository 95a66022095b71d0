-- What is asked of the points of a table.
use Rattle.std.specs.Prelude.{◌≡◌, ◌⊎◌, ◌↔◌, ℕ, ◌+◌, ◌<◌, Bool, true, length, Some}
use Rattle.base_first.specs.Asked.{LeadsOut}
use Rattle.base_first.specs.Points as points
use Rattle.check_order.specs.Edges.{is_sync, is_host, node_at}
use Rattle.check_table.specs.Channels.{channel_at}
use Rattle.check_table.specs.Joined.{Joined, lets_in}
use Rattle.check_table.specs.Laid.{place, seat_at}
use Rattle.check_table.specs.Tables.{IsOrderTable, IsMade}
use Rattle.check_table.specs.declared.asked.Spot.{Spot}
use Rattle.check_table.specs.declared.laying.Seat.TheVariants as sits
use Rattle.check_table.specs.declared.table.OrderTable.{OrderTable}

-- the run of command n, and a column of the stage
pub record IsSpot (table : OrderTable) (n stage : ℕ) (spot : Spot) : Type 0 where
  pub seat : seat_at table.seats.items n ≡ sits.Run spot.run
  pub there : spot.column < table.stages
  pub fits : spot.run + spot.column < length table.points.items
  pub its : (channel_at table.channels.items spot.column).stage.0 ≡ stage

-- node n has no run, or the stage no column
abbrev pub NoSpot : OrderTable → ℕ → ℕ → Type 0
NoSpot table n stage = (p t : ℕ) → seat_at table.seats.items n ≡ sits.Run p → t < table.stages → (channel_at table.channels.items t).stage.0 ≡ stage → ⊥

-- from the point at place k on, node y is reached, or a signal where it is a host read
abbrev pub LeadsFrom : Joined → OrderTable → ℕ → ℕ → Type 0
LeadsFrom W table k y =
    ((is_sync (node_at W.nodes y).kind ≡ true) × points.UpTo table.points.items (length table.channels.items) k (place table.seats.items y))
    ⊎ ((is_host (node_at W.nodes y).kind ≡ true) × LeadsOut table.points.items table.queues (length table.channels.items) k table.stages)

-- from the point at place k on, a node is reached that lets the stage in at command m
pub record EntersFrom (W : Joined) (table : OrderTable) (k stage m : ℕ) : Type 0 where
  pub y : ℕ
  pub sync : is_sync (node_at W.nodes y).kind ≡ true
  pub up : points.UpTo table.points.items (length table.channels.items) k (place table.seats.items y)
  pub lets : lets_in W stage y m ≡ true

-- the answer is yes exactly where, of the nodes that the table is of, one is reached so
abbrev pub TellsEntry : OrderTable → Bool → ℕ → ℕ → ℕ → Type 0
TellsEntry table answer k stage m = (W : Joined) → IsOrderTable W table → IsMade W m (Some stage) → (answer ≡ true) ↔ EntersFrom W table k stage m
