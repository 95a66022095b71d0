-- What a table of the order of accesses is.
use Rattle.std.specs.Prelude.{◌≡◌, ℕ, ◌+◌, ◌<◌, ◌≤◌, true, List, length, Option, Some, None, ◌↔◌, Bool, false, option_map}
use Rattle.vk.specs.declared.stages.Stages.{Stages}
use Rattle.base_first.specs.Asked.{Shown, Chained, Begins}
use Rattle.base_first.specs.Firsts.{IsTable}
use Rattle.base_first.specs.Points.{point_at, Lined}
use Rattle.base_first.specs.declared.point.Point.{Point}
use Rattle.check_order.specs.Edges.{is_host, node_at}
use Rattle.check_order.specs.declared.node.Node.{Node}
use Rattle.check_access_order.specs.Edges.{is_command}
use Rattle.check_access_order.specs.Stages.{IsStage}
use Rattle.check_table.specs.Channels.{Covers}
use Rattle.check_table.specs.Joined.{Joined, Dependencies, EnteredFrom, InOrder}
use Rattle.check_table.specs.Laid.{Laid, IsLaid, seat_at}
use Rattle.check_table.specs.declared.laying.Seat.{Seat}
use Rattle.check_table.specs.declared.laying.Seat.TheVariants as sits
use Rattle.check_table.specs.declared.table.OrderTable.{OrderTable}

-- all nodes
abbrev pub There : Joined → ℕ → Type 0
There W n = n < length W.nodes

-- where the dependency of the point at place p begins
abbrev pub start_by : Seat → ℕ → ℕ
start_by (sits.Node s) p = s
start_by (sits.Run s) p = p
start_by sits.Host p = p

abbrev pub start_in : List Point → List Seat → ℕ → ℕ
start_in line seats p = start_by (seat_at seats (point_at line p).group) p

-- what the walk and the questions ask of points and seats
pub record IsReady (T : Laid) : Type 0 where
  pub shown : Shown T.line (length T.channels)
  pub chained : Chained T.line (length T.channels) T.stages
  pub groups : (p : ℕ) → p < length T.line → (point_at T.line p).group < length T.seats
  pub nodes : (n p : ℕ) → seat_at T.seats n ≡ sits.Node p → p < length T.line
  pub begins : (n p : ℕ) → seat_at T.seats n ≡ sits.Node p → Begins T.line p (start_in T.line T.seats p)
  pub runs : (n p : ℕ) → seat_at T.seats n ≡ sits.Run p → p + T.stages ≤ length T.line

abbrev pub laid_of : OrderTable → Laid
laid_of table = record { line = table.points.items; seats = table.seats.items; channels = table.channels.items; stages = table.stages }

-- a table of points that are fit for it
pub record IsFilled (table : OrderTable) : Type 0 where
  pub first : IsTable table.points.items table.queues (length table.channels.items) table.firsts
  pub lined : Lined table.points.items table.queues
  pub few : length table.channels.items ≤ 64
  pub size : length table.points.items ≤ 2097152
  pub ready : IsReady (laid_of table)

-- a table of the order of these nodes
pub record IsOrderTable (W : Joined) (table : OrderTable) : Type 0 where
  pub dependencies : Dependencies W
  pub count : length table.seats.items ≡ length W.nodes
  pub covers : Covers W table.channels.items table.stages
  pub laid : IsLaid W (There W) (laid_of table)

-- accesses are in a stage by commands alone
abbrev pub IsMade : Joined → ℕ → Option ℕ → Type 0
IsMade W n None = Unit {0}
IsMade W n (Some stage) = IsStage stage × (is_command (node_at W.nodes n).kind ≡ true)

abbrev pub bits : Option Stages → Option ℕ
bits stage = option_map (λ s. s.0) stage

-- the answer is yes exactly where this holds of the nodes that the table is of
abbrev pub Tells : OrderTable → Bool → (Joined → Type 0) → Type 0
Tells table answer P = (W : Joined) → IsOrderTable W table → (answer ≡ true) ↔ P W

-- the same: that from node x on, what node m does in the stage is entered
abbrev pub TellsEntered : OrderTable → Bool → ℕ → ℕ → Option ℕ → Type 0
TellsEntered table answer x m b = (W : Joined) → IsOrderTable W table → IsMade W m b → (answer ≡ true) ↔ EnteredFrom W x m b

-- that what node n does in the first stage is before what node m does in the second
abbrev pub TellsOrder : OrderTable → Bool → ℕ → Option ℕ → ℕ → Option ℕ → Type 0
TellsOrder table answer n a m b = (W : Joined) → IsOrderTable W table → IsMade W n a → IsMade W m b → (answer ≡ true) ↔ InOrder W n a m b

-- nodes of queues are of so many
abbrev pub HasQueues : List Node → ℕ → Type 0
HasQueues nodes queues = (n : ℕ) → n < length nodes → is_host (node_at nodes n).kind ≡ false → (node_at nodes n).queue < queues
