-- Orders of a program's nodes.
use Rattle.std.specs.Prelude.{◌≡◌, ◌⊎◌, ℕ, ◌<◌, ◌==◌, ◌&&◌, nat_lt, not, Bool, true, List, [], ◌∷◌, length, Some, if◌then◌else◌}
use Rattle.check_order.specs.Edges.{is_wait, is_host, node_at, meeting, edge}
use Rattle.check_order.specs.declared.node.Node.{Node}

abbrev pub Among : ℕ → List ℕ → Type 0
Among n [] = ⊥
Among n (x ∷ rest) = (n ≡ x) ⊎ Among n rest

abbrev pub Distinct : List ℕ → Type 0
Distinct [] = Unit {0}
Distinct (x ∷ rest) = (Among x rest → ⊥) × Distinct rest

-- the list up to n
abbrev pub before_in : List ℕ → ℕ → List ℕ
before_in [] n = []
before_in (x ∷ rest) n = if x == n then [] else x ∷ before_in rest n

-- x stands before n
abbrev pub Earlier : List ℕ → ℕ → ℕ → Type 0
Earlier list x n = Among x (before_in list n)

-- a node of a queue, and no host read
abbrev pub is_queued : List Node → ℕ → Bool
is_queued nodes n = nat_lt n (length nodes) && not (is_host (node_at nodes n).kind)

-- a node of a queue stands after the earlier ones of its queue, and a wait after the signal that meets it
pub record InTurn (nodes : List Node) (list : List ℕ) : Type 0 where
  pub queue : (x n : ℕ) → Among n list → is_queued nodes n ≡ true → x < n → (node_at nodes x).queue ≡ (node_at nodes n).queue → Earlier list x n
  pub met : (n : ℕ) → Among n list → is_wait (node_at nodes n).kind ≡ true → (x : ℕ) × (meeting nodes (node_at nodes n).kind ≡ Some x) × Earlier list x n

-- what the queues can get through
pub record Front (nodes : List Node) (list : List ℕ) : Type 0 where
  pub once : Distinct list
  pub queued : (n : ℕ) → Among n list → is_queued nodes n ≡ true
  pub turns : InTurn nodes list

-- all nodes, so that each edge goes forward, and the nodes of the queues are a front
pub record Order (nodes : List Node) (list : List ℕ) : Type 0 where
  pub once : Distinct list
  pub all : (n : ℕ) → n < length nodes → Among n list
  pub only : (n : ℕ) → Among n list → n < length nodes
  pub turns : InTurn nodes list
  pub forward : (x n : ℕ) → Among n list → edge nodes x n ≡ true → Earlier list x n

-- place by place, the first list is not above the second
abbrev pub NotAbove : List ℕ → List ℕ → Type 0
NotAbove [] ys = Unit {0}
NotAbove (x ∷ xs) [] = ⊥
NotAbove (x ∷ xs) (y ∷ ys) = (x < y) ⊎ ((x ≡ y) × NotAbove xs ys)

-- the least of all orders
pub record IsLeast (nodes : List Node) (list : List ℕ) : Type 0 where
  pub order : Order nodes list
  pub least : (other : List ℕ) → Order nodes other → NotAbove list other

-- no order exists, and n, of queue q, is the least node of a queue that is in no front
pub record IsStuck (nodes : List Node) (q n : ℕ) : Type 0 where
  pub none : (other : List ℕ) → Order nodes other → ⊥
  pub queue : (node_at nodes n).queue ≡ q
  pub queued : is_queued nodes n ≡ true
  pub in_none : (front : List ℕ) → Front nodes front → Among n front → ⊥
  pub below : (x : ℕ) → x < n → (front : List ℕ) × Front nodes front × Among x front
