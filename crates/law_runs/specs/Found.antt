-- What an access finds, by what is before it.
use Rattle.std.specs.Prelude.{◌≡◌, ◌≢◌, ◌⊎◌, ℕ, Bool, true, Option, Some}
use Rattle.law_runs.specs.Orders.{Before}
use Rattle.law_runs.specs.Systems.{Access, System, Has, overlap, changes, stores, loads, sets_layout, sets_owner}

-- of the changes of the piece's bytes before access b of n, c of w is the last, and it went through the piece and left bytes
pub record Initializes (S : System) (n : ℕ) (b : Access) (w : ℕ) (c : Access) : Type 0 where
  pub has : Has S w c
  pub leaves : stores c.doing ≡ true
  pub piece : c.piece ≡ b.piece
  pub apart : w ≢ n
  pub before : Before S w c n b
  pub last : (v : ℕ) (d : Access) → Has S v d → v ≢ n → changes d.doing ≡ true → overlap S d.piece b.piece ≡ true → Before S v d n b → (v ≡ w) ⊎ Before S v d w c

-- there is none, and the piece has contents before the first event
pub record Starts (S : System) (n : ℕ) (b : Access) : Type 0 where
  pub none : (v : ℕ) (d : Access) → Has S v d → v ≢ n → changes d.doing ≡ true → overlap S d.piece b.piece ≡ true → Before S v d n b → ⊥
  pub contents : S.contents b.piece ≡ true

abbrev pub InitializedBy : System → ℕ → Access → Type 0
InitializedBy S n b = ((w : ℕ) × (c : Access) × Initializes S n b w c) ⊎ Starts S n b

-- each access that loads is initialized
abbrev pub Initialized : System → Type 0
Initialized S = (n : ℕ) (a : Access) → Has S n a → loads a.doing ≡ true → InitializedBy S n a

-- LAYOUTS AND OWNERS

-- of the accesses of a sort and of the piece before access b of n, d of t is the last
pub record LastOf (S : System) (sort : Access → Bool) (n : ℕ) (b : Access) (t : ℕ) (d : Access) : Type 0 where
  pub has : Has S t d
  pub sorted : sort d ≡ true
  pub piece : d.piece ≡ b.piece
  pub apart : t ≢ n
  pub before : Before S t d n b
  pub last : (v : ℕ) (c : Access) → Has S v c → v ≢ n → sort c ≡ true → c.piece ≡ b.piece → Before S v c n b → (v ≡ t) ⊎ Before S v c t d

abbrev pub NoneOf : System → (Access → Bool) → ℕ → Access → Type 0
NoneOf S sort n b = (v : ℕ) (c : Access) → Has S v c → v ≢ n → sort c ≡ true → c.piece ≡ b.piece → Before S v c n b → ⊥

abbrev pub LayoutBy : System → ℕ → Access → ℕ → Type 0
LayoutBy S n b layout = ((t : ℕ) × (d : Access) × LastOf S sets_layout n b t d × (d.lays ≡ Some layout)) ⊎ (NoneOf S sets_layout n b × (S.first_layout b.piece ≡ layout))

-- first gives the owner before the first event, or the family of the piece's first access
abbrev pub OwnerBy : System → (ℕ → Option ℕ) → ℕ → Access → Option ℕ → Type 0
OwnerBy S first n b family = ((t : ℕ) × (d : Access) × LastOf S sets_owner n b t d × (d.hands ≡ Some family)) ⊎ (NoneOf S sets_owner n b × (first b.piece ≡ family))

-- each access finds the layout that it wants, and its family's ownership
pub record StateValid (S : System) : Type 0 where
  pub first : ℕ → Option ℕ
  pub first_is : (p : ℕ) (o : Option ℕ) → S.first_owner p ≡ Some o → first p ≡ o
  pub layout : (n : ℕ) (a : Access) (want : ℕ) → Has S n a → a.wants ≡ Some want → LayoutBy S n a want
  pub owner : (n : ℕ) (a : Access) → Has S n a → S.needs_owner n a ≡ true → OwnerBy S first n a (S.family n)
