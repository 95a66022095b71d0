-- What each event leaves, and runs of events. Where something is undefined any bytes may come.
use Rattle.std.specs.Prelude.{◌≡◌, ◌⊎◌, ℕ, ◌-◌, List, slice_index, Bool, true, false, Option, Some, if◌then◌else◌}
use Rattle.law_runs.specs.Lines.{is_dirty}
use Rattle.device_cache.specs.Effects.{wrote_main, wrote_back, filled_from, dropped_in}
use Rattle.base.specs.declared.memory_range.MemoryRange.{MemoryRange}
use Rattle.device_cache.specs.Lines.{Line, Lines, Dirty, Bytes, cleaned, dropped}
use Rattle.law_runs.specs.States.{State, Owner, Unused, Left, put, put_at, bytes_in, sight, Torn, Meets, MayLoad, MayStore, MaySync}
use Rattle.law_runs.specs.Systems.{Doing, Read, TakeOver, Access, System, At, Has, covers, changes, is_store, is_long, is_discard}

-- it reads main for the host or the outside
abbrev pub reads : Doing → Bool
reads Read = true
reads TakeOver = true
reads doing = false

-- the piece has another layout than the access wants, or another family owns it
abbrev pub WrongLayout : State → Access → Type 0
WrongLayout s a = (want : ℕ) × (a.wants ≡ Some want) × (s.layout a.piece ≡ want → ⊥)

abbrev pub WrongOwner : System → State → ℕ → Access → Type 0
WrongOwner S s n a = (owner : ℕ) × (family : ℕ) × (S.needs_owner n a ≡ true) × (s.owner a.piece ≡ Left (Some owner)) × (S.family n ≡ Some family) × (owner ≡ family → ⊥)

-- what an access loads may be any bytes
abbrev pub LoadsUndefined : System → State → ℕ → Access → Type 0
LoadsUndefined S s n a = Torn S s n a.piece ⊎ (WrongLayout s a ⊎ WrongOwner S s n a)

-- an access of n that is made takes a piece that nobody has used
abbrev pub Takes : System → State → ℕ → (Access → Type 0) → ℕ → Owner → Type 0
Takes S s n makes p owner = (owner ≡ s.owner p) ⊎ ((s.owner p ≡ Unused) × (owner ≡ Left (S.family n)) × ((a : Access) × Has S n a × makes a × (a.piece ≡ p) × ((S.needs_owner n a ≡ true) ⊎ (S.exclusive p ≡ false))))

-- a store becomes marked where one of its command was under way, and clashes with an access that node n makes
abbrev pub Marks : System → State → ℕ → (Access → Type 0) → (ℕ → ℕ → Bool) → Type 0
Marks S s n makes marked = (v j : ℕ) → marked v j ≡ true → (s.marked v j ≡ true) ⊎ ((a : Access) × (b : Access) × makes a × Meets S s n a v b)

-- A LOAD

abbrev pub took : State → ℕ → ℕ → List ℕ → (ℕ → ℕ → Bool) → (ℕ → Owner) → State
took s n k bytes marked owner = record s { taken = put_at s.taken n k true; loaded = put_at s.loaded n k bytes; marked = marked; owner = owner }

pub record Loads (S : System) (s : State) (n k : ℕ) (a : Access) (bytes : List ℕ) (marked : ℕ → ℕ → Bool) (owner : ℕ → Owner) : Type 0 where
  pub may : MayLoad S s n k a
  pub bytes_are : LoadsUndefined S s n a ⊎ (bytes ≡ sight S s a)
  pub marks : Marks S s n (λ b. b ≡ a) marked
  pub takes : (p : ℕ) → Takes S s n (λ b. b ≡ a) p (owner p)

-- STORES, ALL OF A COMMAND AT ONCE

-- the store at place k leaves any bytes
abbrev pub Junked : System → State → ℕ → ℕ → Access → Type 0
Junked S s n k c = (s.marked n k ≡ true) ⊎ ((v : ℕ) × (b : Access) × Meets S s n c v b)

-- it is a store of n by agent g to the byte
pub record StoresAt (S : System) (n k : ℕ) (c : Access) (g m i : ℕ) : Type 0 where
  pub at : At S n k c
  pub store : is_store c.doing ≡ true
  pub agent : g ≡ c.agent
  pub covered : covers S c.piece m i ≡ true

abbrev pub did_store : State → ℕ → Lines → (ℕ → ℕ → Bool) → (ℕ → Owner) → State
did_store s n line marked owner = record s { line = line; done = put s.done n true; marked = marked; owner = owner }

-- a superseded store leaves no line
pub record Stores (S : System) (s : State) (n : ℕ) (bytes : ℕ → List ℕ) (line : Lines) (marked : ℕ → ℕ → Bool) (owner : ℕ → Owner) : Type 0 where
  pub may : MayStore S s n
  pub bytes_are : (k : ℕ) (c : Access) → At S n k c → is_store c.doing ≡ true → Junked S s n k c ⊎ (bytes k ≡ S.out n (s.loaded n) k)
  pub mine : (k : ℕ) (c : Access) (g m i : ℕ) → StoresAt S n k c g m i → line g m i ≡ Dirty (slice_index (bytes k) (i - (S.range c.piece).start))
  pub others : (g m i : ℕ) → ((k : ℕ) (c : Access) → StoresAt S n k c g m i → ⊥) → line g m i ≡ s.line g m i
  pub marks : Marks S s n (λ c. is_long c.doing ≡ true) marked
  pub takes : (p : ℕ) → Takes S s n (λ c. is_long c.doing ≡ true) p (owner p)

-- A SYNCHRONIZING NODE

-- main's byte is that of a dirty line that passes; or no line that passes is dirty, and it is as before
abbrev pub FlushTo : (ℕ → Bool) → (ℕ → Line) → ℕ → ℕ → Type 0
FlushTo pass lines v v' = ((g : ℕ) × (pass g ≡ true) × (lines g ≡ Dirty v')) ⊎ (((g : ℕ) → pass g ≡ true → is_dirty (lines g) ≡ false) × (v' ≡ v))

-- a discard of the byte, or a transition that keeps undefined bytes
pub record JunkedAt (S : System) (s : State) (n m i : ℕ) : Type 0 where
  pub access : Access
  pub has : Has S n access
  pub changes : changes access.doing ≡ true
  pub covered : covers S access.piece m i ≡ true
  pub why : (is_discard access.doing ≡ true) ⊎ LoadsUndefined S s n access

abbrev pub line_after : System → ℕ → Lines → Lines
line_after S n line g m i = if S.shows n g m i then dropped (if S.flushes n g m i then cleaned (line g m i) else line g m i) else (if S.flushes n g m i then cleaned (line g m i) else line g m i)

abbrev pub did_sync : System → State → ℕ → Bytes → List ℕ → (ℕ → ℕ → Bool) → (ℕ → ℕ) → (ℕ → Owner) → State
did_sync S s n main read marked layout owner = record s { main = main; line = line_after S n s.line; done = put s.done n true; marked = marked; host = put s.host n read; layout = layout; owner = owner }

-- the layout that n leaves
abbrev pub Lays : System → State → ℕ → ℕ → ℕ → Type 0
Lays S s n p layout = ((a : Access) × Has S n a × (a.lays ≡ Some layout) × (a.piece ≡ p)) ⊎ ((layout ≡ s.layout p) × ((a : Access) (l : ℕ) → Has S n a → a.lays ≡ Some l → a.piece ≡ p → ⊥))

-- the owner that n leaves
abbrev pub Hands : System → State → ℕ → ℕ → Owner → Type 0
Hands S s n p owner = ((a : Access) × (o : Option ℕ) × Has S n a × (a.hands ≡ Some o) × (a.piece ≡ p) × (owner ≡ Left o)) ⊎ (Takes S s n (λ a. Unit {0}) p owner × ((a : Access) (o : Option ℕ) → Has S n a → a.hands ≡ Some o → a.piece ≡ p → ⊥))

pub record Syncs (S : System) (s : State) (n : ℕ) (main : Bytes) (read : List ℕ) (marked : ℕ → ℕ → Bool) (layout : ℕ → ℕ) (owner : ℕ → Owner) : Type 0 where
  pub may : MaySync S s n
  pub flushed : Bytes
  pub flush : (m i : ℕ) → FlushTo (λ g. S.flushes n g m i) (λ g. s.line g m i) (s.main m i) (flushed m i)
  pub main_is : (m i : ℕ) → (main m i ≡ flushed m i) ⊎ JunkedAt S s n m i
  pub read_is : (a : Access) → Has S n a → reads a.doing ≡ true → LoadsUndefined S s n a ⊎ (read ≡ bytes_in S main a.piece)
  pub marks : Marks S s n (λ c. Unit {0}) marked
  pub lays : (p : ℕ) → Lays S s n p (layout p)
  pub hands : (p : ℕ) → Hands S s n p (owner p)

-- EVENTS

-- an access by a node
pub data Goes (S : System) : State → State → Type 0 where
  loads_one : (s : State) (n k : ℕ) (a : Access) (bytes : List ℕ) (marked : ℕ → ℕ → Bool) (owner : ℕ → Owner) → Loads S s n k a bytes marked owner → Goes S s (took s n k bytes marked owner)
  stores_all : (s : State) (n : ℕ) (bytes : ℕ → List ℕ) (line : Lines) (marked : ℕ → ℕ → Bool) (owner : ℕ → Owner) → Stores S s n bytes line marked owner → Goes S s (did_store s n line marked owner)
  syncs_one : (s : State) (n : ℕ) (main : Bytes) (read : List ℕ) (marked : ℕ → ℕ → Bool) (layout : ℕ → ℕ) (owner : ℕ → Owner) → Syncs S s n main read marked layout owner → Goes S s (did_sync S s n main read marked layout owner)

-- a move of caches
pub data Moves : State → State → Type 0 where
  writes_back : (s : State) (agent : ℕ) (range : MemoryRange) → Moves s (record s { main = wrote_main agent range s.line s.main; line = wrote_back agent range s.line })
  fills : (s : State) (agent : ℕ) (range : MemoryRange) → Moves s (record s { line = filled_from agent range s.main s.line })
  drops : (s : State) (agent : ℕ) (range : MemoryRange) → Moves s (record s { line = dropped_in agent range s.line })

pub data Run (S : System) (s : State) : State → Type 0 where
  start : Run S s s
  goes : {t u : State} → Run S s t → Goes S t u → Run S s u
  moves : {t u : State} → Run S s t → Moves t u → Run S s u
