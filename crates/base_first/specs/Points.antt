-- Points in a line, and which is reached from which.
use Rattle.std.specs.Prelude.{◌≡◌, ◌≢◌, ◌⊎◌, ℕ, ◌<◌, ◌≤◌, true, List, length, get_or, Some, None}
use Rattle.base_first.specs.Bits.{bit}
use Rattle.base_first.specs.declared.point.Point.{Point}

abbrev pub no_point : Point
no_point = record { queue = 0; group = 0; ins = 0; outs = 0; shows = 0; met = None }

abbrev pub point_at : List Point → ℕ → Point
point_at points p = get_or points p no_point

-- point z comes later on the queue of point p, in another group, and waits in a channel in which others wait for p
pub record Held (points : List Point) (channels p z : ℕ) : Type 0 where
  pub rising : p < z
  pub there : z < length points
  pub queue : (point_at points p).queue ≡ (point_at points z).queue
  pub apart : (point_at points p).group ≢ (point_at points z).group
  pub channel : ℕ
  pub below : channel < channels
  pub outs : bit (point_at points p).outs channel ≡ true
  pub ins : bit (point_at points z).ins channel ≡ true

-- point z waits for point p
pub record Met (points : List Point) (p z : ℕ) : Type 0 where
  pub there : z < length points
  pub met : (point_at points z).met ≡ Some p

abbrev pub Edge : List Point → ℕ → ℕ → ℕ → Type 0
Edge points channels p z = Held points channels p z ⊎ Met points p z

-- point y is point p, or edges lead there
pub data UpTo (points : List Point) (channels : ℕ) : ℕ → ℕ → Type 0 where
  here : {p y : ℕ} → p ≡ y → UpTo points channels p y
  on : {p z y : ℕ} → Edge points channels p z → UpTo points channels z y → UpTo points channels p y

-- queues are known, nothing goes back, and groups are runs of a queue's points
pub record Lined (points : List Point) (queues : ℕ) : Type 0 where
  pub queue : (p : ℕ) → p < length points → (point_at points p).queue < queues
  pub met : (p g : ℕ) → p < length points → (point_at points p).met ≡ Some g → g < p
  pub grouped : (p m z : ℕ) → p ≤ m → m ≤ z → z < length points → (point_at points p).queue ≡ (point_at points m).queue → (point_at points m).queue ≡ (point_at points z).queue → (point_at points p).group ≡ (point_at points z).group → (point_at points p).group ≡ (point_at points m).group
