-- What holds of each byte after any events.
use Rattle.std.proofs.Common.{◌≡◌, ◌≢◌, ◌⊎◌, ℕ, Bool, true, false}
use Rattle.law_runs.specs.Lines.{is_dirty}
use Rattle.device_cache.specs.Lines.{Line, Bytes, seen}
use Rattle.law_runs.specs.Orders.{UpTo, Before}
use Rattle.law_runs.specs.Systems.{Access, System, Has, covers, changes, stores, is_store}

-- the line is absent or holds the byte
abbrev pub Tells : Line → ℕ → Type 0
Tells l b = seen l b ≡ b

-- what commands give when they run one after another: the byte that a node left, and the one that was there before all nodes
pub record Values : Type 0 where
  pub byte : ℕ → Bytes
  pub start : Bytes

-- n changes nothing at the byte
abbrev pub Spares : System → ℕ → ℕ → ℕ → Type 0
Spares S n m i = (d : Access) → Has S n d → changes d.doing ≡ true → covers S d.piece m i ≡ true → ⊥

module _ (S : System) (done : ℕ → Bool) (m i : ℕ) where
  -- of the done accesses that changed the byte, c of node w is the last
  pub record IsLast (w : ℕ) (c : Access) : Type 0 where
    pub finished : done w ≡ true
    pub has : Has S w c
    pub alters : changes c.doing ≡ true
    pub at : covers S c.piece m i ≡ true
    pub top : (v : ℕ) (d : Access) → done v ≡ true → Has S v d → changes d.doing ≡ true → covers S d.piece m i ≡ true → (v ≡ w) ⊎ Before S v d w c

  -- no done access changed the byte
  abbrev pub Untouched : Type 0
  Untouched = (v : ℕ) (d : Access) → done v ≡ true → Has S v d → changes d.doing ≡ true → covers S d.piece m i ≡ true → ⊥

  -- a done node into which the store leaves makes it available
  pub record FlushedAt (w : ℕ) (c : Access) (x : ℕ) : Type 0 where
    pub finished : done x ≡ true
    pub next : S.leaves w c x ≡ true
    pub flushes : S.flushes x c.agent m i ≡ true

  -- a done node makes it visible to the agent
  pub record ShownAt (y g : ℕ) : Type 0 where
    pub finished : done y ≡ true
    pub shows : S.shows y g m i ≡ true

-- the agent is the one that stored, or done nodes have passed the change on to it
pub data Knows (S : System) (done : ℕ → Bool) (m i w : ℕ) (c : Access) (g : ℕ) : Type 0 where
  own : is_store c.doing ≡ true → g ≡ c.agent → Knows S done m i w c g
  store_passed : (x y : ℕ) → is_store c.doing ≡ true → FlushedAt S done m i w c x → UpTo S x y → ShownAt S done m i y g → Knows S done m i w c g
  turn_passed : (y : ℕ) → is_store c.doing ≡ false → UpTo S w y → ShownAt S done m i y g → Knows S done m i w c g

module _ (S : System) (done : ℕ → Bool) (m i : ℕ) where
  -- the last change was a store by this agent
  pub record Owned (g w : ℕ) (c : Access) : Type 0 where
    pub last : IsLast S done m i w c
    pub store : is_store c.doing ≡ true
    pub agent : g ≡ c.agent

  -- lines and main's byte
  pub record ByteOk (W : Values) (lines : ℕ → Line) (v : ℕ) : Type 0 where
    pub dirty : (g : ℕ) → is_dirty (lines g) ≡ true → (w : ℕ) × (c : Access) × Owned g w c
    pub value : (w : ℕ) (c : Access) → IsLast S done m i w c → stores c.doing ≡ true → ((g : ℕ) → is_dirty (lines g) ≡ false) → v ≡ W.byte w m i
    pub known : (w : ℕ) (c : Access) → IsLast S done m i w c → stores c.doing ≡ true → (g : ℕ) → Knows S done m i w c g → Tells (lines g) (W.byte w m i)
    pub flushed : (w : ℕ) (c : Access) (x : ℕ) → IsLast S done m i w c → is_store c.doing ≡ true → FlushedAt S done m i w c x → is_dirty (lines c.agent) ≡ false
    pub fresh : Untouched S done m i → (v ≡ W.start m i) × ((g : ℕ) → Tells (lines g) (W.start m i))

-- n has been finished: done became done'
pub record Finishes (done done' : ℕ → Bool) (n : ℕ) : Type 0 where
  pub grows : (x : ℕ) → done' x ≡ true → (x ≡ n) ⊎ (done x ≡ true)
  pub stays : (x : ℕ) → done x ≡ true → done' x ≡ true
  pub self : done' n ≡ true
  pub was : done n ≡ true → ⊥

-- nothing done is after access c of n
abbrev pub NoneAfter : System → (ℕ → Bool) → ℕ → Access → Type 0
NoneAfter S done n c = (v : ℕ) (d : Access) → Has S v d → v ≢ n → changes d.doing ≡ true → done v ≡ true → Before S n c v d → ⊥
