-- The first points that are reached, in rows of numbers.
use Rattle.std.specs.Prelude.{◌≡◌, ℕ, ◌+◌, ◌*◌, ◌<◌, ◌≤◌, true, List, length, get_or}
use Rattle.base_first.specs.Bits.{bit}
use Rattle.base_first.specs.Points.{point_at, UpTo}
use Rattle.base_first.specs.declared.point.Point.{Point}

-- v is the least number that has the property, where one below n has it, and else is no such number
pub record First (n : ℕ) (M : ℕ → Type 0) (v : ℕ) : Type 0 where
  pub member : v < n → M v
  pub least : (y : ℕ) → M y → v ≤ y

-- of those in R, a point of queue q that is looked for in column c
pub record Found (points : List Point) (R : ℕ → Type 0) (q c y : ℕ) : Type 0 where
  pub there : y < length points
  pub reached : R y
  pub queue : (point_at points y).queue ≡ q
  pub shown : bit (point_at points y).shows c ≡ true

-- a row has the first point of each queue in each column
abbrev pub RowOf : List Point → ℕ → ℕ → (ℕ → Type 0) → (ℕ → ℕ) → Type 0
RowOf points queues channels R row = (q c : ℕ) → q < queues → c < channels → First (length points) (Found points R q c) (row (q * channels + c))

-- for so many points a row with a number for each queue and channel
pub record Table : Type 0 where
  pub count : ℕ
  pub queues : ℕ
  pub channels : ℕ
  pub numbers : List ℕ

-- the number of a point's row that is of a queue and a channel
abbrev pub first_in : Table → ℕ → ℕ → ℕ → ℕ
first_in table p q c = get_or table.numbers (p * (table.queues * table.channels) + (q * table.channels + c)) 0

-- each number is of the first point of the queue that is looked for in the column and reached from the row's point
pub record IsTable (points : List Point) (n t : ℕ) (table : Table) : Type 0 where
  pub count : table.count ≡ length points
  pub queues : table.queues ≡ n
  pub channels : table.channels ≡ t
  pub firsts : (p q c : ℕ) → p < length points → q < n → c < t → First (length points) (Found points (UpTo points t p) q c) (first_in table p q c)
