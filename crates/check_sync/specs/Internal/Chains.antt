-- The accesses of each piece, from the latest back.
use Rattle.std.specs.Prelude.{◌≡◌, ℕ, ◌-◌, ◌<◌, ◌≤◌, ◌||◌, Bool, true, false, List, get_or, length}
use Rattle.check_access.specs.declared.node_access.NodeAccess.{NodeAccess}
use Rattle.check_sync.specs.Internal.Places.{piece_of, kind_of, clashes_with_loads}
use Rattle.check_sync.specs.declared.chain.Chain.{Chain}
use Rattle.check_sync.specs.declared.chain.Chains.{Chains}

abbrev pub IsIn : Bool → List NodeAccess → ℕ → Type 0
IsIn loads accesses i = (loads || clashes_with_loads (kind_of accesses i)) ≡ true

-- m is one more than the last access of the piece before `bound`, or 0, where loads count or not
pub record Latest (loads : Bool) (accesses : List NodeAccess) (bound q m : ℕ) : Type 0 where
  pub low : m ≤ bound
  pub last : (i : ℕ) → i < bound → piece_of accesses i ≡ q → IsIn loads accesses i → i < m
  pub its : 0 < m → piece_of accesses (m - 1) ≡ q

-- the first accesses are in the chain
pub record Links (accesses : List NodeAccess) (pieces bound : ℕ) (loads : Bool) (chain : Chain) : Type 0 where
  pub kind : chain.loads ≡ loads
  pub table : length chain.last.items ≡ pieces
  pub size : length chain.prev.items ≡ bound
  pub latest : (q : ℕ) → q < pieces → Latest loads accesses bound q (get_or chain.last.items q 0)
  pub earlier : (i : ℕ) → i < bound → Latest loads accesses i (piece_of accesses i) (get_or chain.prev.items i 0)

-- with loads, and without them
pub record BothLinks (accesses : List NodeAccess) (pieces bound : ℕ) (chains : Chains) : Type 0 where
  pub all : Links accesses pieces bound true chains.all
  pub no_loads : Links accesses pieces bound false chains.no_loads
