-- What a table of first points tells.
use Rattle.std.specs.Prelude.{◌≡◌, ◌⊎◌, ℕ, ◌<◌, ◌≤◌, true, false, List, length, Some, None}
use Rattle.base_first.specs.Bits.{bit}
use Rattle.base_first.specs.Firsts.{Found}
use Rattle.base_first.specs.Points.{point_at, UpTo}
use Rattle.base_first.specs.declared.point.Point.{Point}

-- before place `to`, on its queue, stands a point that is reached from p and looked for in column c
abbrev pub LeadsTo : List Point → ℕ → ℕ → ℕ → ℕ → Type 0
LeadsTo points channels p c to = (y : ℕ) × (y < to) × Found points (UpTo points channels p) (point_at points to).queue c y

-- on some queue stands a point that is reached from p and looked for in column c
abbrev pub LeadsOut : List Point → ℕ → ℕ → ℕ → ℕ → Type 0
LeadsOut points queues channels p c = (q : ℕ) × (y : ℕ) × (q < queues) × Found points (UpTo points channels p) q c y

-- a point that holds others back is looked for in just the channels in which they wait for it
abbrev pub IsShown : List Point → ℕ → ℕ → Type 0
IsShown points channels p = (c : ℕ) → c < channels → bit (point_at points p).shows c ≡ bit (point_at points p).outs c

-- and one that is not waits for nothing, so that nothing goes through it
pub record IsEnd (points : List Point) (channels p : ℕ) : Type 0 where
  pub ins : (c : ℕ) → c < channels → bit (point_at points p).ins c ≡ false
  pub met : (point_at points p).met ≡ None
  pub shows : (c : ℕ) → c < channels → bit (point_at points p).shows c ≡ false

abbrev pub Shown : List Point → ℕ → Type 0
Shown points channels = (p : ℕ) → p < length points → IsShown points channels p ⊎ IsEnd points channels p

-- the group of point y begins at place `start` of its queue
abbrev pub Begins : List Point → ℕ → ℕ → Type 0
Begins points y start = (start ≤ y) × ((z : ℕ) → z < y → (point_at points z).queue ≡ (point_at points y).queue → (z < start → (point_at points z).group ≡ (point_at points y).group → ⊥) × (start ≤ z → (point_at points z).group ≡ (point_at points y).group))

-- a wait waits for a signal; signals wait for all earlier signals of their queue, in a channel of their own
pub record Chained (points : List Point) (channels signals : ℕ) : Type 0 where
  pub known : signals < channels
  pub met : (p g : ℕ) → p < length points → (point_at points p).met ≡ Some g → (g < length points) × (bit (point_at points g).shows signals ≡ true)
  pub ins : (g : ℕ) → g < length points → bit (point_at points g).shows signals ≡ true → (bit (point_at points g).outs signals ≡ true) × (bit (point_at points g).ins signals ≡ true)
  pub apart : (f g : ℕ) → f < g → g < length points → bit (point_at points g).shows signals ≡ true → (point_at points f).queue ≡ (point_at points g).queue → (point_at points f).group ≡ (point_at points g).group → ⊥

-- point y waits in a channel in which a point is looked for that is reached from p and stands before `start` on its queue
abbrev pub HeldFrom : List Point → ℕ → ℕ → ℕ → ℕ → Type 0
HeldFrom points channels p y start = (c : ℕ) × (z : ℕ) × (c < channels) × (bit (point_at points y).ins c ≡ true) × (z < start) × Found points (UpTo points channels p) (point_at points y).queue c z

-- point y waits in a channel for point p itself, which stands before `start` on its queue
abbrev pub HeldAt : List Point → ℕ → ℕ → ℕ → ℕ → Type 0
HeldAt points channels p y start = ((point_at points p).queue ≡ (point_at points y).queue) × (p < start) × ((c : ℕ) × (c < channels) × (bit (point_at points p).outs c ≡ true) × (bit (point_at points y).ins c ≡ true))
