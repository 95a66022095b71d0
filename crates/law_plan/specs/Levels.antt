-- Levels of nodes that no edge lowers.
use Rattle.std.specs.Prelude.{◌≡◌, ◌⊎◌, ℕ, zero, suc, ◌<◌, ◌≤◌, nat_le, if◌then◌else◌, true, List, [], ◌∷◌, length, Some}
use Rattle.check_order.specs.Edges.{edge, is_wait, meeting, node_at}
use Rattle.check_order.specs.Orders.{is_queued}
use Rattle.check_order.specs.declared.node.Node.{Node}

-- x has a lower level, or the same and a lower number
abbrev pub Under : (ℕ → ℕ) → ℕ → ℕ → Type 0
Under level x n = (level x < level n) ⊎ ((level x ≡ level n) × (x < n))

-- on its queue no node has a lower level than one before it, a wait has a higher one than the signal that meets it, and no
-- edge goes down
pub record Leveled (nodes : List Node) (level : ℕ → ℕ) : Type 0 where
  pub queue : (x n : ℕ) → is_queued nodes n ≡ true → x < n → n < length nodes → (node_at nodes x).queue ≡ (node_at nodes n).queue → level x ≤ level n
  pub met : (n : ℕ) → n < length nodes → is_wait (node_at nodes n).kind ≡ true → (x : ℕ) × (meeting nodes (node_at nodes n).kind ≡ Some x) × (x < length nodes) × (level x < level n)
  pub forward : (x n : ℕ) → n < length nodes → edge nodes x n ≡ true → (x < length nodes) × Under level x n

-- n in a list by levels, after those that have no higher one
abbrev pub placed : (ℕ → ℕ) → ℕ → List ℕ → List ℕ
placed level n [] = n ∷ []
placed level n (x ∷ rest) = if nat_le (level x) (level n) then x ∷ placed level n rest else n ∷ x ∷ rest

-- the numbers below k by their levels
abbrev pub by_level : (ℕ → ℕ) → ℕ → List ℕ
by_level level zero = []
by_level level (suc k) = placed level k (by_level level k)
