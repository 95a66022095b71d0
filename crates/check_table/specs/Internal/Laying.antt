-- Points are laid for the nodes of an order, one node after another.
use Rattle.std.specs.Prelude.{◌≡◌, ℕ, ◌+◌, ◌*◌, ◌<◌, ◌≤◌, false, List, length, get_or, None}
use Rattle.std.specs.Option.{option_map}
use Rattle.base_first.specs.Bits.{bit}
use Rattle.base_first.specs.Points.{point_at}
use Rattle.base_first.specs.declared.point.Point.{Point}
use Rattle.check_order.specs.Edges.{node_at, meeting}
use Rattle.check_order.specs.declared.node.Node.{Node}
use Rattle.check_table.specs.Channels as by
use Rattle.check_table.specs.Channels.{channel_at, left_by}
use Rattle.check_table.specs.Joined.{Joined}
use Rattle.check_table.specs.Laid.{Laid, IsLaid, place, seat_at}
use Rattle.check_table.specs.declared.channel.Channel.{Channel}
use Rattle.check_table.specs.declared.laying.Line.{Line}
use Rattle.check_table.specs.declared.laying.Seat.{Seat}
use Rattle.check_table.specs.declared.laying.Seat.TheVariants as sits

-- node n is one of the first k of the order
abbrev pub DoneIn : List ℕ → ℕ → ℕ → Type 0
DoneIn order k n = (i : ℕ) × (i < k) × (get_or order i 0 ≡ n)

-- command n goes on the run that begins at place p: it comes next after another of its queue that is in it
pub record GoesOn (nodes : List Node) (seats : List Seat) (n p : ℕ) : Type 0 where
  pub m : ℕ
  pub follows : m + 1 ≡ n
  pub queue : (node_at nodes m).queue ≡ (node_at nodes n).queue
  pub is : seat_at seats m ≡ sits.Run p

-- a point of node x, where earlier nodes have their seats
pub record IsNodePoint (W : Joined) (channels : List Channel) (seats : List Seat) (x : ℕ) (point : Point) : Type 0 where
  pub queue : point.queue ≡ (node_at W.nodes x).queue
  pub group : point.group ≡ W.first x
  pub ins : (c : ℕ) → c < length channels → bit point.ins c ≡ by.ins W (channel_at channels c) x
  pub outs : (c : ℕ) → c < length channels → bit point.outs c ≡ by.outs W (channel_at channels c) x
  pub shows : (c : ℕ) → c < length channels → bit point.shows c ≡ by.outs W (channel_at channels c) x
  pub met : point.met ≡ option_map (λ g. place seats g) (meeting W.nodes (node_at W.nodes x).kind)

-- a point of a run of commands, for a stage
pub record IsSitePoint (channels : List Channel) (stage queue group : ℕ) (point : Point) : Type 0 where
  pub queue_is : point.queue ≡ queue
  pub group_is : point.group ≡ group
  pub ins : (c : ℕ) → c < length channels → bit point.ins c ≡ false
  pub outs : (c : ℕ) → c < length channels → bit point.outs c ≡ left_by (channel_at channels c) stage
  pub shows : (c : ℕ) → c < length channels → bit point.shows c ≡ false
  pub met : point.met ≡ None

-- n more points, for the stages of the first channels
pub record WithSites (channels : List Channel) (n queue group : ℕ) (old new : List Point) : Type 0 where
  pub size : length new ≡ length old + n
  pub kept : (p : ℕ) → p < length old → point_at new p ≡ point_at old p
  pub site : (t : ℕ) → t < n → IsSitePoint channels (channel_at channels t).stage.0 queue group (point_at new (length old + t))

abbrev pub laid_by : Line → List Channel → ℕ → Laid
laid_by line channels stages = record { line = line.points.items; seats = line.seats.items; channels = channels; stages = stages }

-- the first k nodes of the order have their points
pub record IsLaying (W : Joined) (order : List ℕ) (channels : List Channel) (stages k : ℕ) (line : Line) : Type 0 where
  pub size : length line.seats.items ≡ length W.nodes
  pub room : length line.points.items ≤ 32 * k
  pub laid : IsLaid W (DoneIn order k) (laid_by line channels stages)
