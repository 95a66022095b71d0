-- Resources that are chosen such that no two of them may alias. Resources are told apart by their numbers in the list of their
-- sizes, and `ordered a b` says that all that is done to a is done before all that is done to b.
use Rattle.std.specs.Prelude.{ℕ, zero, suc, List, [], ◌∷◌, length, ◌==◌, ◌&&◌, not, nat_lt, Bool, if◌then◌else◌}
use Rattle.std.specs.List.{fold, insert, list_all, position_or_len}
use Rattle.compile_heap.specs.Placing.{goes_first, may_alias}

-- n before the first entry that passes the test
abbrev pub inserted : (ℕ → Bool) → ℕ → List ℕ → List ℕ
inserted test n list = insert list (position_or_len test list) n

-- the first n resources in the order in which they are placed: by falling size, and then by number
abbrev pub falling : List ℕ → ℕ → List ℕ
falling sizes zero = []
falling sizes (suc n) = inserted (goes_first sizes n) n (falling sizes n)

-- s is another resource than each of these, and may alias none of them
abbrev pub is_apart : (ℕ → ℕ → Bool) → ℕ → List ℕ → Bool
is_apart ordered s chosen = list_all (λ r. not (s == r) && not (may_alias ordered s r)) chosen

-- s is chosen too where it is apart from these, which stay in rising number
abbrev pub joined : (ℕ → ℕ → Bool) → List ℕ → ℕ → List ℕ
joined ordered chosen s = if is_apart ordered s chosen then inserted (nat_lt s) s chosen else chosen

-- the choice that begins with r and goes through all resources
abbrev pub choice : List ℕ → (ℕ → ℕ → Bool) → ℕ → List ℕ
choice sizes ordered r = fold (joined ordered) (r ∷ []) (falling sizes (length sizes))
