-- Points for nodes, in a line.
use Rattle.std.specs.Prelude.{◌≡◌, ◌≢◌, ◌⊎◌, ℕ, ◌+◌, ◌<◌, ◌≤◌, true, false, List, length, get_or, Option, Some, None}
use Rattle.base_first.specs.Asked.{IsEnd}
use Rattle.base_first.specs.Bits.{bit}
use Rattle.base_first.specs.Points.{point_at}
use Rattle.base_first.specs.declared.point.Point.{Point}
use Rattle.check_order.specs.Edges.{is_sync, is_host, node_at, meeting}
use Rattle.check_order.specs.declared.kind.Kind.{Kind}
use Rattle.check_access_order.specs.Edges.{is_command}
use Rattle.check_table.specs.Channels as by
use Rattle.check_table.specs.Channels.{channel_at, left_by}
use Rattle.check_table.specs.Joined.{Joined}
use Rattle.check_table.specs.declared.channel.Channel.{Channel}
use Rattle.check_table.specs.declared.laying.Seat.{Seat}
use Rattle.check_table.specs.declared.laying.Seat.TheVariants as sits

-- the points, the seat of each node, the channels, and how many of these are by stages
pub record Laid : Type 0 where
  pub line : List Point
  pub seats : List Seat
  pub channels : List Channel
  pub stages : ℕ

abbrev pub seat_at : List Seat → ℕ → Seat
seat_at seats n = get_or seats n sits.Host

abbrev pub place_of : Seat → ℕ
place_of (sits.Node p) = p
place_of (sits.Run p) = p
place_of sits.Host = 0

abbrev pub place : List Seat → ℕ → ℕ
place seats n = place_of (seat_at seats n)

abbrev pub IsSeat : Kind → Seat → Type 0
IsSeat kind (sits.Node p) = is_sync kind ≡ true
IsSeat kind (sits.Run p) = is_command kind ≡ true
IsSeat kind sits.Host = is_host kind ≡ true

-- a wait's point waits for that of the signal that meets it
abbrev pub WaitsFor : (ℕ → Type 0) → List Seat → Option ℕ → Option ℕ → ℕ → Type 0
WaitsFor Done seats None met p = met ≡ None
WaitsFor Done seats (Some g) met p = Done g × (met ≡ Some (place seats g)) × (place seats g < p)

-- the point of a node that holds others back
pub record IsNode (W : Joined) (Done : ℕ → Type 0) (T : Laid) (x : ℕ) : Type 0 where
  pub there : place T.seats x < length T.line
  pub queue : (point_at T.line (place T.seats x)).queue ≡ (node_at W.nodes x).queue
  pub group : (point_at T.line (place T.seats x)).group ≡ W.first x
  pub ins : (c : ℕ) → c < length T.channels → bit (point_at T.line (place T.seats x)).ins c ≡ by.ins W (channel_at T.channels c) x
  pub outs : (c : ℕ) → c < length T.channels → bit (point_at T.line (place T.seats x)).outs c ≡ by.outs W (channel_at T.channels c) x
  pub shows : (c : ℕ) → c < length T.channels → bit (point_at T.line (place T.seats x)).shows c ≡ by.outs W (channel_at T.channels c) x
  pub met : WaitsFor Done T.seats (meeting W.nodes (node_at W.nodes x).kind) (point_at T.line (place T.seats x)).met (place T.seats x)

-- a point of a run of commands: no way goes through it, and its group is that of no node that holds others back
pub record IsRun (W : Joined) (T : Laid) (p : ℕ) : Type 0 where
  pub end : IsEnd T.line (length T.channels) p
  pub apart : (x : ℕ) → is_sync (node_at W.nodes x).kind ≡ true → (point_at T.line p).group ≢ W.first x

-- the point of the run of command m, for the stage of channel t
pub record IsSite (W : Joined) (T : Laid) (m t : ℕ) : Type 0 where
  pub there : place T.seats m + t < length T.line
  pub queue : (point_at T.line (place T.seats m + t)).queue ≡ (node_at W.nodes m).queue
  pub outs : (c : ℕ) → c < length T.channels → bit (point_at T.line (place T.seats m + t)).outs c ≡ left_by (channel_at T.channels c) (channel_at T.channels t).stage.0
  pub run : IsRun W T (place T.seats m + t)

abbrev pub AreSites : Joined → Laid → ℕ → Type 0
AreSites W T m = (t : ℕ) → t < T.stages → IsSite W T m t

-- of the nodes that are done each that holds others back has a point, and each run of commands one for each stage; points of a
-- queue stand in the order of their nodes
pub record IsLaid (W : Joined) (Done : ℕ → Type 0) (T : Laid) : Type 0 where
  pub seat : (n : ℕ) → Done n → IsSeat (node_at W.nodes n).kind (seat_at T.seats n)
  pub node : (x : ℕ) → Done x → is_sync (node_at W.nodes x).kind ≡ true → IsNode W Done T x
  pub run : (m : ℕ) → Done m → is_command (node_at W.nodes m).kind ≡ true → AreSites W T m
  pub fits : (m : ℕ) → Done m → is_command (node_at W.nodes m).kind ≡ true → place T.seats m + T.stages ≤ length T.line
  pub all : (p : ℕ) → p < length T.line → ((x : ℕ) × Done x × (is_sync (node_at W.nodes x).kind ≡ true) × (place T.seats x ≡ p)) ⊎ IsRun W T p
  pub from : (p : ℕ) → p < length T.line → (n : ℕ) × Done n × ((point_at T.line p).queue ≡ (node_at W.nodes n).queue) × ((point_at T.line p).group ≡ W.first n) × (is_host (node_at W.nodes n).kind ≡ false)
  pub rising : (p q : ℕ) → p < q → q < length T.line → (point_at T.line p).queue ≡ (point_at T.line q).queue → (point_at T.line p).group ≤ (point_at T.line q).group
  pub turn : (x y : ℕ) → Done x → Done y → is_sync (node_at W.nodes x).kind ≡ true → is_sync (node_at W.nodes y).kind ≡ true → (node_at W.nodes x).queue ≡ (node_at W.nodes y).queue → x < y → place T.seats x < place T.seats y
  pub behind : (x m : ℕ) → Done x → Done m → is_sync (node_at W.nodes x).kind ≡ true → is_command (node_at W.nodes m).kind ≡ true → (node_at W.nodes x).queue ≡ (node_at W.nodes m).queue → x < m → place T.seats x < place T.seats m
  pub ahead : (x m : ℕ) → Done x → Done m → is_sync (node_at W.nodes x).kind ≡ true → is_command (node_at W.nodes m).kind ≡ true → (node_at W.nodes x).queue ≡ (node_at W.nodes m).queue → m < x → place T.seats m + T.stages ≤ place T.seats x
