-- The walk over the points, from the last one back.
use Rattle.std.specs.Prelude.{◌≡◌, ◌≢◌, ℕ, ◌+◌, ◌*◌, ◌<◌, ◌≤◌, true, List, length, get_or, Some}
use Rattle.base_first.specs.Bits.{bit}
use Rattle.base_first.specs.Internal.Rows.{entry}
use Rattle.base_first.specs.Firsts.{RowOf}
use Rattle.base_first.specs.Points.{point_at, UpTo}
use Rattle.base_first.specs.declared.point.Point.{Point}

-- reached from a point from k on of queue q that waits in channel c
pub record NextIn (points : List Point) (channels k q c y : ℕ) : Type 0 where
  pub z : ℕ
  pub from : k ≤ z
  pub there : z < length points
  pub queue : (point_at points z).queue ≡ q
  pub ins : bit (point_at points z).ins c ≡ true
  pub up : UpTo points channels z y

-- the same, and the point is of another group than g
pub record OutIn (points : List Point) (channels k q c g y : ℕ) : Type 0 where
  pub next : NextIn points channels k q c y
  pub apart : g ≢ (point_at points next.z).group

-- reached from a point from k on that waits for point p
pub record MetBy (points : List Point) (channels k p y : ℕ) : Type 0 where
  pub z : ℕ
  pub from : k ≤ z
  pub there : z < length points
  pub met : (point_at points z).met ≡ Some p
  pub up : UpTo points channels z y

-- the latest group on queue q that has a point from k on
pub record Newest (points : List Point) (k q g z : ℕ) : Type 0 where
  pub m : ℕ
  pub from : k ≤ m
  pub up_to : m ≤ z
  pub queue : (point_at points m).queue ≡ q
  pub group : (point_at points m).group ≡ g

-- the points from k on are dealt with: first come the rows of all points; then, for each queue and channel, those of what waits in
-- the channel; and then the same without what is of the queue's newest group
pub record Walked (points : List Point) (queues channels : ℕ) (numbers groups : List ℕ) (k : ℕ) : Type 0 where
  pub size : length numbers ≡ (length points + (queues * channels + queues * channels)) * (queues * channels)
  pub count : length groups ≡ queues
  pub done : (p : ℕ) → k ≤ p → p < length points → RowOf points queues channels (UpTo points channels p) (λ e. entry numbers (queues * channels) p e)
  pub waiting : (p : ℕ) → p < k → p < length points → RowOf points queues channels (MetBy points channels k p) (λ e. entry numbers (queues * channels) p e)
  pub next : (q c : ℕ) → q < queues → c < channels → RowOf points queues channels (NextIn points channels k q c) (λ e. entry numbers (queues * channels) (length points + (q * channels + c)) e)
  pub outs : (q c : ℕ) → q < queues → c < channels → RowOf points queues channels (OutIn points channels k q c (get_or groups q 0)) (λ e. entry numbers (queues * channels) (length points + queues * channels + (q * channels + c)) e)

-- for each queue, the latest group that has a point from k on
abbrev pub IsNewest : List Point → ℕ → List ℕ → ℕ → Type 0
IsNewest points queues groups k = (q z : ℕ) → q < queues → k ≤ z → z < length points → (point_at points z).queue ≡ q → Newest points k q (get_or groups q 0) z
