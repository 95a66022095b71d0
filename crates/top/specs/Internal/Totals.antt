-- What the bytes of all exports come to.
use Rattle.std.specs.Prelude.{◌≡◌, ℕ, List, length}
use Rattle.std.specs.List.{sum}
use Rattle.compile_file.specs.Exports.{in_turn}
use Rattle.top.specs.declared.totals.Total.{Total}

-- the number of the bytes of so many lists, and their sum
pub record IsTotal (bytes : ℕ → List ℕ) (count : ℕ) (total : Total) : Type 0 where
  pub all : total.bytes ≡ length (in_turn bytes count)
  pub summed : total.sum ≡ sum (in_turn bytes count)
