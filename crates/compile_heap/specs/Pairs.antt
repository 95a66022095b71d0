-- Sets of pairs of numbers below a count. A pair has a direction.
use Rattle.std.specs.Prelude.{ℕ, ◌+◌, ◌*◌, List, Bool, false, slice_index_or}

-- what is known of a set: the table, row after row, is read by `has` alone
pub record Table : Type 0 where
  pub count : ℕ
  pub pairs : List Bool

-- the set has the pair
abbrev pub has : Table → ℕ → ℕ → Bool
has table a b = slice_index_or table.pairs (a * table.count + b) false
