-- The order of single accesses.
use Rattle.std.specs.Prelude.{◌≡◌, ◌≢◌, ◌⊎◌, ℕ, Bool, true, false}
use Rattle.law_runs.specs.Systems.{Doing, Load, Store, Superseded, Access, System, Has, covers, changes, transfers}

-- a path of at least one edge
pub data Path (edge : ℕ → ℕ → Bool) : ℕ → ℕ → Type 0 where
  one : {a b : ℕ} → edge a b ≡ true → Path edge a b
  then_on : {a b c : ℕ} → Path edge a b → Path edge b c → Path edge a c

abbrev pub UpTo : System → ℕ → ℕ → Type 0
UpTo S x y = (x ≡ y) ⊎ Path S.edge x y

-- access a of node n is before access b of node m: no path leads through a command
pub record Before (S : System) (n : ℕ) (a : Access) (m : ℕ) (b : Access) : Type 0 where
  pub x : ℕ
  pub y : ℕ
  pub leaves : S.leaves n a x ≡ true
  pub leads : UpTo S x y
  pub enters : S.enters y m b ≡ true

-- WHEN A CHANGE REACHES A LATER ACCESS

abbrev pub FlushesOn : System → ℕ → ℕ → ℕ → Type 0
FlushesOn S x agent p = (m i : ℕ) → covers S p m i ≡ true → S.flushes x agent m i ≡ true

abbrev pub ShowsOn : System → ℕ → ℕ → ℕ → Type 0
ShowsOn S y agent p = (m i : ℕ) → covers S p m i ≡ true → S.shows y agent m i ≡ true

-- node x makes available what access a of node n left: after a store a node into which it leaves, else n itself
abbrev pub AvailableBy : System → Doing → ℕ → Access → ℕ → Type 0
AvailableBy S Store n a x = (S.leaves n a x ≡ true) × FlushesOn S x a.agent a.piece
AvailableBy S doing n a x = n ≡ x

-- node y makes memory visible to access b of node m: a node that enters it; a transition needs none, nor does the outside,
-- and a read by the host one before it
abbrev pub VisibleBy : System → Doing → ℕ → Access → ℕ → Type 0
VisibleBy S Load m b y = (S.enters y m b ≡ true) × ShowsOn S y b.agent b.piece
VisibleBy S Store m b y = (S.enters y m b ≡ true) × ShowsOn S y b.agent b.piece
VisibleBy S Superseded m b y = (S.enters y m b ≡ true) × ShowsOn S y b.agent b.piece
VisibleBy S doing m b y = UpTo S y m

pub record Passed (S : System) (n : ℕ) (a : Access) (m : ℕ) (b : Access) : Type 0 where
  pub x : ℕ
  pub y : ℕ
  pub available : AvailableBy S a.doing n a x
  pub leads : UpTo S x y
  pub visible : VisibleBy S b.doing m b y

-- accesses of two nodes that clash are in order, and changes are passed on
pub record Synchronized (S : System) : Type 0 where
  pub ordered : (n m : ℕ) (a b : Access) → Has S n a → Has S m b → n ≢ m → S.clash a b ≡ true → Before S n a m b ⊎ Before S m b n a
  pub passed : (n m : ℕ) (a b : Access) → Has S n a → Has S m b → n ≢ m → S.clash a b ≡ true → Before S n a m b → changes a.doing ≡ true → transfers b.doing ≡ false → b.alone ≡ false → Passed S n a m b
