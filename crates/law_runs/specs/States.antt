-- What a device holds while single accesses are made, and what may go on.
use Rattle.std.specs.Prelude.{◌≡◌, ◌≢◌, ℕ, ◌+◌, ◌<◌, ◌==◌, ◌&&◌, List, [], map, Bool, true, false, Option, if◌then◌else◌}
use Rattle.std.specs.List.{range_with_len}
use Rattle.std.specs.Option.{option_map_or}
use Rattle.device_cache.specs.Lines.{Lines, Absent, Bytes, seen}
use Rattle.law_runs.specs.Systems.{Access, System, At, Has, is_load, is_long, overlap}

-- whose a piece is: nobody has used it yet, or this family's, or nobody's
pub data Owner : Type 0 where
  Unused : Owner
  Left : Option ℕ → Owner

pub record State : Type 0 where
  pub main : Bytes
  -- by the number of the agent
  pub line : Lines
  -- of an access of a command by its place: whether it is a load that was taken, and its bytes
  pub taken : ℕ → ℕ → Bool
  pub loaded : ℕ → ℕ → List ℕ
  -- a command has stored, a synchronizing node is done
  pub done : ℕ → Bool
  -- of an access by its place: it is a store that was under way together with what it clashes with
  pub marked : ℕ → ℕ → Bool
  -- what was read by the host, or found by the outside
  pub host : ℕ → List ℕ
  -- of a piece
  pub layout : ℕ → ℕ
  pub owner : ℕ → Owner

-- before the first event
abbrev pub opened : System → Bytes → State
opened S main = record {
  main = main;
  line = λ g m i. Absent;
  taken = λ n k. false;
  loaded = λ n k. [];
  done = λ n. false;
  marked = λ n k. false;
  host = λ n. [];
  layout = S.first_layout;
  owner = λ p. option_map_or Left (S.first_owner p) Unused;
}

-- at one argument, or two, another value
abbrev pub put : {X : Type 0} → (ℕ → X) → ℕ → X → ℕ → X
put f n v x = if x == n then v else f x

abbrev pub put_at : {X : Type 0} → (ℕ → ℕ → X) → ℕ → ℕ → X → ℕ → ℕ → X
put_at f n k v x j = if (x == n) && (j == k) then v else f x j

-- what a memory has at the bytes of a piece
abbrev pub bytes_in : System → Bytes → ℕ → List ℕ
bytes_in S main p = map (λ k. main (S.range p).memory ((S.range p).start + k)) (range_with_len 0 (S.range p).len)

-- what the agent of an access sees of its piece
abbrev pub sight : System → State → Access → List ℕ
sight S s a = bytes_in S (λ m i. seen (s.line a.agent m i) (s.main m i)) a.piece

-- PROGRESS OF ACCESSES

-- the access at place k of node n is over: a load is taken, a store is stored, a synchronizing node is done
abbrev pub over : State → ℕ → ℕ → Access → Bool
over s n k a = if is_load a.doing then s.taken n k else s.done n

-- every node that enters it is done
abbrev pub Entered : System → State → ℕ → Access → Type 0
Entered S s n a = (y : ℕ) → S.enters y n a ≡ true → s.done y ≡ true

-- a store is under way from when all nodes that enter it are done until its command stores
pub record UnderWay (S : System) (s : State) (n : ℕ) (a : Access) : Type 0 where
  pub long : is_long a.doing ≡ true
  pub entered : Entered S s n a
  pub fresh : s.done n ≡ false

-- a store of another node to bytes of the piece is under way
pub record Torn (S : System) (s : State) (n p : ℕ) : Type 0 where
  pub node : ℕ
  pub access : Access
  pub has : Has S node access
  pub other : node ≢ n
  pub way : UnderWay S s node access
  pub overlaps : overlap S access.piece p ≡ true

-- access a of node n clashes with store b of another node, which is under way
pub record Meets (S : System) (s : State) (n : ℕ) (a : Access) (v : ℕ) (b : Access) : Type 0 where
  pub mine : Has S n a
  pub theirs : Has S v b
  pub other : n ≢ v
  pub clash : S.clash a b ≡ true
  pub way : UnderWay S s v b

-- WHAT IS ENABLED

pub record MayLoad (S : System) (s : State) (n k : ℕ) (a : Access) : Type 0 where
  pub command : S.is_command n ≡ true
  pub at : At S n k a
  pub load : is_load a.doing ≡ true
  pub fresh : s.taken n k ≡ false
  pub entered : Entered S s n a

pub record MayStore (S : System) (s : State) (n : ℕ) : Type 0 where
  pub within : n < S.count
  pub command : S.is_command n ≡ true
  pub fresh : s.done n ≡ false
  pub taken : (k : ℕ) (a : Access) → At S n k a → is_load a.doing ≡ true → s.taken n k ≡ true
  pub entered : (a : Access) → Has S n a → is_long a.doing ≡ true → Entered S s n a

-- a synchronizing node: what leaves into it is over, and what holds it back is done
pub record MaySync (S : System) (s : State) (n : ℕ) : Type 0 where
  pub within : n < S.count
  pub sync : S.is_command n ≡ false
  pub fresh : s.done n ≡ false
  pub left : (v k : ℕ) (a : Access) → At S v k a → S.is_command v ≡ true → S.leaves v a n ≡ true → over s v k a ≡ true
  pub edges : (x : ℕ) → S.edge x n ≡ true → s.done x ≡ true
