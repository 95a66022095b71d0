-- Bits of a list of words.
use Rattle.std.specs.Prelude.{ℕ, ◌/◌, ◌%◌, ◌==◌, Bool, List, get_or}
use Rattle.std.specs.Int.{bit_at}

-- bit b of words of 64 bits, the lowest bit first
unfoldable pub bit : List ℕ → ℕ → Bool
bit words b = bit_at (get_or words (b / 64) 0) (b % 64) == 1
