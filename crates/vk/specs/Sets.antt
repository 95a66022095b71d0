-- Sets of bits, as numbers.
use Rattle.std.specs.Prelude.{ℕ, List, [], ◌∷◌, ◌==◌, Bool, not}
use Rattle.std.specs.Int.RustNames.{bit_and, bit_or}

-- all of these bits are in the set
abbrev pub has : ℕ → ℕ → Bool
has set bits = bit_and set bits == bits

-- one of these bits is in the set
abbrev pub meets : ℕ → ℕ → Bool
meets set bits = not (bit_and set bits == 0)

-- the union of a set and of those that the rows give
abbrev pub union_from : {Row : Type 0} → ℕ → (Row → ℕ) → List Row → ℕ
union_from set gives [] = set
union_from set gives (row ∷ rows) = union_from (bit_or set (gives row)) gives rows

abbrev pub union_over : {Row : Type 0} → (Row → ℕ) → List Row → ℕ
union_over gives rows = union_from 0 gives rows
