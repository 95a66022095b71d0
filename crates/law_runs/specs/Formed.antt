-- What a program gives to its device.
use Rattle.std.specs.Prelude.{◌≡◌, ◌≢◌, ℕ, ◌<◌, ◌||◌, List, length, true, false}
use Rattle.law_runs.specs.Runs.{reads}
use Rattle.law_runs.specs.Systems.{Access, System, At, Has, covers, overlap, is_load, is_long, is_store, is_superseded, changes, sets_layout, sets_owner}

pub record Formed (S : System) : Type 0 where
  pub within : (n : ℕ) (a : Access) → Has S n a → n < S.count
  -- commands load and store by agents, and only they do
  pub of_command : (n : ℕ) (a : Access) → Has S n a → S.is_command n ≡ true → (is_load a.doing || is_long a.doing) ≡ true
  pub of_sync : (n : ℕ) (a : Access) → Has S n a → S.is_command n ≡ false → (is_load a.doing || is_long a.doing) ≡ false
  -- synchronizing nodes alone hold back, are left into, enter, make available and visible
  pub holds_back : (x y : ℕ) → S.edge x y ≡ true → S.is_command x ≡ false
  pub held_back : (x y : ℕ) → S.edge x y ≡ true → S.is_command y ≡ false
  pub leaves_to : (n : ℕ) (a : Access) (x : ℕ) → S.leaves n a x ≡ true → S.is_command x ≡ false
  pub enters_from : (y n : ℕ) (a : Access) → S.enters y n a ≡ true → S.is_command y ≡ false
  pub flushes_by : (n g m i : ℕ) → S.flushes n g m i ≡ true → S.is_command n ≡ false
  pub shows_by : (n g m i : ℕ) → S.shows n g m i ≡ true → S.is_command n ≡ false
  -- an access of a synchronizing node leaves into that node, and is entered from it
  pub leaves_self : (n : ℕ) (a : Access) (x : ℕ) → S.is_command n ≡ false → S.leaves n a x ≡ true → x ≡ n
  pub enters_self : (y n : ℕ) (a : Access) → S.is_command n ≡ false → S.enters y n a ≡ true → y ≡ n
  -- a node changes a byte by one access
  pub one : (n : ℕ) (c d : Access) (m i : ℕ) → Has S n c → Has S n d → changes c.doing ≡ true → changes d.doing ≡ true → covers S c.piece m i ≡ true → covers S d.piece m i ≡ true → c ≡ d
  pub clash_back : (a b : Access) → S.clash a b ≡ true → S.clash b a ≡ true
  -- a superseded store leaves wherever the one leaves that takes its place
  pub superseded : (n : ℕ) (a : Access) → Has S n a → is_superseded a.doing ≡ true → (t : Access) × Has S n t × (is_store t.doing ≡ true) × ((x : ℕ) → S.leaves n t x ≡ true → S.leaves n a x ≡ true) × ((b : Access) → S.clash a b ≡ true → S.clash t b ≡ true)
  -- a command stores to a piece by one access, of the piece's size, and knows of its loads alone
  pub one_place : (n k j : ℕ) (c d : Access) → At S n k c → At S n j d → is_store c.doing ≡ true → is_store d.doing ≡ true → c.piece ≡ d.piece → k ≡ j
  pub sized : (n k : ℕ) (c : Access) (loaded : ℕ → List ℕ) → At S n k c → is_store c.doing ≡ true → length (S.out n loaded k) ≡ (S.range c.piece).len
  pub by_loads : (n k : ℕ) (f g : ℕ → List ℕ) → ((j : ℕ) (a : Access) → At S n j a → is_load a.doing ≡ true → f j ≡ g j) → S.out n f k ≡ S.out n g k
  -- synchronizing nodes alone set layouts and owners, each of a piece once, and what does clashes with all on its piece
  pub lays_sync : (n : ℕ) (a : Access) → Has S n a → sets_layout a ≡ true → S.is_command n ≡ false
  pub hands_sync : (n : ℕ) (a : Access) → Has S n a → sets_owner a ≡ true → S.is_command n ≡ false
  pub one_lays : (n : ℕ) (a b : Access) → Has S n a → Has S n b → sets_layout a ≡ true → sets_layout b ≡ true → a.piece ≡ b.piece → a.lays ≡ b.lays
  pub one_hands : (n : ℕ) (a b : Access) → Has S n a → Has S n b → sets_owner a ≡ true → sets_owner b ≡ true → a.piece ≡ b.piece → a.hands ≡ b.hands
  pub clash_lays : (v n : ℕ) (a b : Access) → Has S v a → Has S n b → sets_layout a ≡ true → a.piece ≡ b.piece → S.clash a b ≡ true
  pub clash_hands : (v n : ℕ) (a b : Access) → Has S v a → Has S n b → sets_owner a ≡ true → a.piece ≡ b.piece → S.clash a b ≡ true
  pub needs_exclusive : (n : ℕ) (a : Access) → S.needs_owner n a ≡ true → S.exclusive a.piece ≡ true
  -- a piece that is touched has bytes
  pub some : (n : ℕ) (a : Access) → Has S n a → 0 < (S.range a.piece).len
  -- a node that reads for the host or the outside changes no byte
  pub reads_alone : (n : ℕ) (a b : Access) → Has S n a → Has S n b → reads a.doing ≡ true → changes b.doing ≡ true → ⊥
  -- and holds nothing back
  pub ends : (n y : ℕ) (a : Access) → Has S n a → reads a.doing ≡ true → S.edge n y ≡ true → ⊥
  pub enters_none : (n v : ℕ) (a c : Access) → Has S n a → reads a.doing ≡ true → v ≢ n → S.enters n v c ≡ true → ⊥
  -- what changes bytes, or is a store, clashes with what touches them
  pub clash_change : (a b : Access) (m i : ℕ) → changes a.doing ≡ true → covers S a.piece m i ≡ true → covers S b.piece m i ≡ true → S.clash a b ≡ true
  pub clash_long : (a b : Access) → is_long a.doing ≡ true → overlap S a.piece b.piece ≡ true → S.clash a b ≡ true
  pub alone_store : (n : ℕ) (b : Access) → Has S n b → b.alone ≡ true → is_store b.doing ≡ true
  -- what needs order alone has another store of its node beside it, on its piece, that needs the rest
  pub beside : (n : ℕ) (b : Access) → Has S n b → b.alone ≡ true → (e : Access) × Has S n e × (is_long e.doing ≡ true) × (e.piece ≡ b.piece) × (e.alone ≡ false)
