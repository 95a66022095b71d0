-- A device that takes all loads of a command when it begins and stores when it ends. Only commands that are begun spoil
-- what others do.
use Rattle.std.specs.Prelude.{◌≡◌, ◌≢◌, ◌⊎◌, ℕ, ◌-◌, ◌<◌, List, slice_index, Bool, true, false}
use Rattle.law_runs.specs.Apart.{Order, after_node, apart, bytes_before}
use Rattle.law_runs.specs.Formed.{Formed}
use Rattle.law_runs.specs.Laws.{Sound, AllDone}
use Rattle.device_cache.specs.Lines.{Lines, Bytes, Dirty}
use Rattle.law_runs.specs.Runs.{reads, WrongLayout, WrongOwner, Takes, StoresAt, FlushTo, Lays, Hands, did_store, did_sync, Moves}
use Rattle.law_runs.specs.States.{State, Owner, opened, put, bytes_in, sight, Entered}
use Rattle.law_runs.specs.Systems.{Access, System, At, Has, covers, overlap, is_load, is_store, is_long, is_discard, changes}

pub record Device : Type 0 where
  pub state : State
  pub begun : ℕ → Bool

abbrev pub fresh_device : System → Bytes → Device
fresh_device S main = record { state = opened S main; begun = λ n. false }

-- another command is begun, and has not ended
pub record Busy (d : Device) (n v : ℕ) : Type 0 where
  pub other : v ≢ n
  pub begun : d.begun v ≡ true
  pub fresh : d.state.done v ≡ false

-- a begun command stores to bytes of the piece, the layout is another one, or another family owns it
abbrev pub DeviceLoadsUndefined : System → Device → ℕ → Access → Type 0
DeviceLoadsUndefined S d n a = ((v : ℕ) × (b : Access) × Busy d n v × Has S v b × (is_long b.doing ≡ true) × (overlap S b.piece a.piece ≡ true)) ⊎ (WrongLayout d.state a ⊎ WrongOwner S d.state n a)

-- a store of a begun command clashes with an access of n
abbrev pub IsHit : System → Device → ℕ → ℕ → Type 0
IsHit S d n v = (a : Access) × (b : Access) × Busy d n v × Has S n a × Has S v b × (is_long b.doing ≡ true) × (S.clash a b ≡ true)

-- BEGIN

abbrev pub did_begin : Device → ℕ → (ℕ → List ℕ) → (ℕ → ℕ → Bool) → (ℕ → Owner) → Device
did_begin d n loaded marked owner = record {
  state = record d.state { taken = put d.state.taken n (λ k. true); loaded = put d.state.loaded n loaded; marked = marked; owner = owner };
  begun = put d.begun n true;
}

pub record MayBegin (S : System) (d : Device) (n : ℕ) : Type 0 where
  pub within : n < S.count
  pub command : S.is_command n ≡ true
  pub idle : d.begun n ≡ false
  pub fresh : d.state.done n ≡ false
  pub entered : (a : Access) → Has S n a → Entered S d.state n a

pub record Begins (S : System) (d : Device) (n : ℕ) (loaded : ℕ → List ℕ) (marked : ℕ → ℕ → Bool) (owner : ℕ → Owner) : Type 0 where
  pub may : MayBegin S d n
  pub bytes_are : (k : ℕ) (a : Access) → At S n k a → is_load a.doing ≡ true → DeviceLoadsUndefined S d n a ⊎ (loaded k ≡ sight S d.state a)
  -- begun commands whose store clashes with an access of n, and n where its store clashes with an access of one
  pub marks : (v j : ℕ) → marked v j ≡ true → (d.state.marked v j ≡ true) ⊎ (IsHit S d n v ⊎ ((w : ℕ) × (b : Access) × (a : Access) × Busy d n w × Has S n b × (is_long b.doing ≡ true) × Has S w a × (S.clash b a ≡ true)))
  pub takes : (p : ℕ) → Takes S d.state n (λ a. Unit {0}) p (owner p)

-- END

pub record Ends (S : System) (d : Device) (n : ℕ) (bytes : ℕ → List ℕ) (line : Lines) : Type 0 where
  pub begun : d.begun n ≡ true
  pub fresh : d.state.done n ≡ false
  pub bytes_are : (k : ℕ) (c : Access) → At S n k c → is_store c.doing ≡ true → (d.state.marked n k ≡ true) ⊎ (bytes k ≡ S.out n (d.state.loaded n) k)
  pub mine : (k : ℕ) (c : Access) (g m i : ℕ) → StoresAt S n k c g m i → line g m i ≡ Dirty (slice_index (bytes k) (i - (S.range c.piece).start))
  pub others : (g m i : ℕ) → ((k : ℕ) (c : Access) → StoresAt S n k c g m i → ⊥) → line g m i ≡ d.state.line g m i

abbrev pub did_end : Device → ℕ → Lines → Device
did_end d n line = record { state = did_store d.state n line d.state.marked d.state.owner; begun = d.begun }

-- A SYNCHRONIZING NODE

-- each command with an access that leaves into it has ended, and what holds it back is done
pub record MaySynchronize (S : System) (d : Device) (n : ℕ) : Type 0 where
  pub within : n < S.count
  pub sync : S.is_command n ≡ false
  pub fresh : d.state.done n ≡ false
  pub left : (v : ℕ) (a : Access) → Has S v a → S.is_command v ≡ true → S.leaves v a n ≡ true → d.state.done v ≡ true
  pub edges : (x : ℕ) → S.edge x n ≡ true → d.state.done x ≡ true

pub record DeviceJunkedAt (S : System) (d : Device) (n m i : ℕ) : Type 0 where
  pub access : Access
  pub has : Has S n access
  pub changes : changes access.doing ≡ true
  pub covered : covers S access.piece m i ≡ true
  pub why : (is_discard access.doing ≡ true) ⊎ DeviceLoadsUndefined S d n access

pub record Synchronizes (S : System) (d : Device) (n : ℕ) (main : Bytes) (read : List ℕ) (marked : ℕ → ℕ → Bool) (layout : ℕ → ℕ) (owner : ℕ → Owner) : Type 0 where
  pub may : MaySynchronize S d n
  pub flushed : Bytes
  pub flush : (m i : ℕ) → FlushTo (λ g. S.flushes n g m i) (λ g. d.state.line g m i) (d.state.main m i) (flushed m i)
  pub main_is : (m i : ℕ) → (main m i ≡ flushed m i) ⊎ DeviceJunkedAt S d n m i
  pub read_is : (a : Access) → Has S n a → reads a.doing ≡ true → DeviceLoadsUndefined S d n a ⊎ (read ≡ bytes_in S main a.piece)
  pub marks : (v j : ℕ) → marked v j ≡ true → (d.state.marked v j ≡ true) ⊎ IsHit S d n v
  pub lays : (p : ℕ) → Lays S d.state n p (layout p)
  pub hands : (p : ℕ) → Hands S d.state n p (owner p)

abbrev pub did_synchronize : System → Device → ℕ → Bytes → List ℕ → (ℕ → ℕ → Bool) → (ℕ → ℕ) → (ℕ → Owner) → Device
did_synchronize S d n main read marked layout owner = record { state = did_sync S d.state n main read marked layout owner; begun = d.begun }

-- HISTORIES

pub data DeviceGoes (S : System) : Device → Device → Type 0 where
  begins : (d : Device) (n : ℕ) (loaded : ℕ → List ℕ) (marked : ℕ → ℕ → Bool) (owner : ℕ → Owner) → Begins S d n loaded marked owner → DeviceGoes S d (did_begin d n loaded marked owner)
  ends : (d : Device) (n : ℕ) (bytes : ℕ → List ℕ) (line : Lines) → Ends S d n bytes line → DeviceGoes S d (did_end d n line)
  synchronizes : (d : Device) (n : ℕ) (main : Bytes) (read : List ℕ) (marked : ℕ → ℕ → Bool) (layout : ℕ → ℕ) (owner : ℕ → Owner) → Synchronizes S d n main read marked layout owner → DeviceGoes S d (did_synchronize S d n main read marked layout owner)

pub data History (S : System) (d : Device) : Device → Type 0 where
  opens : History S d d
  goes_on : {e f : Device} → History S d e → DeviceGoes S e f → History S d f
  moves_on : {e : Device} {t : State} → History S d e → Moves e.state t → History S d (record { state = t; begun = e.begun })

-- THE LAW OF A DEVICE

pub record DeviceSimulated (S : System) (main : Bytes) (order : List ℕ) (d : Device) : Type 0 where
  pub loaded : (n k : ℕ) (a : Access) → At S n k a → is_load a.doing ≡ true → d.begun n ≡ true → d.state.loaded n k ≡ bytes_before S main order n a.piece
  pub unmarked : (n k : ℕ) → d.state.marked n k ≡ true → ⊥
  pub stored : (n : ℕ) (bytes : ℕ → List ℕ) (line : Lines) → Ends S d n bytes line → (k : ℕ) (c : Access) → At S n k c → is_store c.doing ≡ true → bytes k ≡ after_node S (bytes_before S main order n) n c.piece
  pub read : (n : ℕ) (a : Access) → Has S n a → reads a.doing ≡ true → d.state.done n ≡ true → d.state.host n ≡ apart S main order a.piece
  pub stays : (n : ℕ) (a : Access) → Has S n a → reads a.doing ≡ true → d.state.done n ≡ true → bytes_in S d.state.main a.piece ≡ apart S main order a.piece

abbrev pub DeviceSimulates : Type 0
DeviceSimulates = (S : System) → Formed S → Sound S → (order : List ℕ) → Order S order → (main : Bytes) (d : Device) → History S (fresh_device S main) d → DeviceSimulated S main order d

-- a command may begin, or is begun, or a synchronizing node may go on
abbrev pub DeviceGoesOn : System → Device → Type 0
DeviceGoesOn S d = (n : ℕ) × (MayBegin S d n ⊎ (((d.begun n ≡ true) × (d.state.done n ≡ false)) ⊎ MaySynchronize S d n))

abbrev pub DeviceProgresses : Type 0
DeviceProgresses = (S : System) → Formed S → Sound S → (main : Bytes) (d : Device) → History S (fresh_device S main) d → AllDone S d.state ⊎ DeviceGoesOn S d
