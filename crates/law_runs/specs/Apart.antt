-- What a program comes to where its commands run one after another and each piece has bytes of its own.
use Rattle.std.specs.Prelude.{◌≡◌, ◌⊎◌, ℕ, suc, ◌<◌, ◌==◌, ◌&&◌, List, [], ◌∷◌, replicate, slice_get, true, Option, Some, None, if◌then◌else◌}
use Rattle.std.specs.Option.{option_map, option_map_or}
use Rattle.device_cache.specs.Lines.{Bytes}
use Rattle.law_runs.specs.States.{bytes_in}
use Rattle.law_runs.specs.Systems.{Access, System, is_load, is_store}

-- ORDERS OF ALL NODES

abbrev pub Among : ℕ → List ℕ → Type 0
Among n [] = ⊥
Among n (x ∷ rest) = (n ≡ x) ⊎ Among n rest

abbrev pub Distinct : List ℕ → Type 0
Distinct [] = Unit {0}
Distinct (x ∷ rest) = (Among x rest → ⊥) × Distinct rest

-- the list up to n
abbrev pub before_in : List ℕ → ℕ → List ℕ
before_in [] n = []
before_in (x ∷ rest) n = if x == n then [] else x ∷ before_in rest n

-- x stands before n
abbrev pub Earlier : List ℕ → ℕ → ℕ → Type 0
Earlier list x n = Among x (before_in list n)

-- edges go forward, and commands stand among the synchronizing nodes that enter them and into which they leave
pub record Order (S : System) (list : List ℕ) : Type 0 where
  pub once : Distinct list
  pub all : (n : ℕ) → n < S.count → Among n list
  pub only : (n : ℕ) → Among n list → n < S.count
  pub edges : (x y : ℕ) → S.edge x y ≡ true → Earlier list x y
  pub leaves : (n : ℕ) (a : Access) (x : ℕ) → S.is_command n ≡ true → S.leaves n a x ≡ true → Earlier list n x
  pub enters : (y n : ℕ) (a : Access) → S.is_command n ≡ true → S.enters y n a ≡ true → Earlier list y n

-- BYTES OF ALL PIECES

abbrev pub Contents : Type 0
Contents = ℕ → List ℕ

-- the place of the store to the piece
abbrev pub store_place : List Access → ℕ → Option ℕ
store_place [] p = None
store_place (a ∷ rest) p = if is_store a.doing && (a.piece == p) then Some 0 else option_map (λ k. suc k) (store_place rest p)

-- what a command loads at each place
abbrev pub loads_in : System → Contents → ℕ → ℕ → List ℕ
loads_in S bytes n k = option_map_or (λ a. if is_load a.doing then bytes a.piece else []) (slice_get (S.accesses n) k) []

-- a command loads, and then stores to all its pieces at once; other nodes do nothing
abbrev pub after_node : System → Contents → ℕ → Contents
after_node S bytes n p = option_map_or (λ k. S.out n (loads_in S bytes n) k) (store_place (S.accesses n) p) (bytes p)

abbrev pub after_nodes : System → Contents → List ℕ → Contents
after_nodes S bytes [] = bytes
after_nodes S bytes (n ∷ order) = after_nodes S (after_node S bytes n) order

-- pieces with contents begin with main's bytes
abbrev pub first_bytes : System → Bytes → Contents
first_bytes S main p = if S.contents p then bytes_in S main p else replicate (S.range p).len 0

-- after the nodes of an order, and right before one
abbrev pub apart : System → Bytes → List ℕ → Contents
apart S main order = after_nodes S (first_bytes S main) order

abbrev pub bytes_before : System → Bytes → List ℕ → ℕ → Contents
bytes_before S main order n = apart S main (before_in order n)
