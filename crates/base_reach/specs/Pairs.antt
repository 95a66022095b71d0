-- Sets of pairs of numbers.
use Rattle.std.specs.Prelude.{◌≡◌, ℕ, ◌+◌, ◌*◌, ◌<◌, ◌==◌, ◌&&◌, ◌||◌, nat_lt, Bool, true, false, List, [], ◌∷◌}
use Rattle.base_reach.specs.Bits.{bit}

-- the pairs of numbers below a count that rows of `width` words stand for
abbrev pub pairs_of : List ℕ → ℕ → ℕ → ℕ → ℕ → Bool
pairs_of words width count a b = nat_lt a count && (nat_lt b count && bit words (a * width * 64 + b))

-- each pair goes forward, below the count
abbrev pub Ahead : List ℕ → ℕ → ℕ → Type 0
Ahead words width count = (a b : ℕ) → a < count → b < 64 * width → bit words (a * width * 64 + b) ≡ true → (a < b) × (b < count)

-- what is known of rows: the words are read by `has` alone
pub record Pairs : Type 0 where
  pub count : ℕ
  pub width : ℕ
  pub words : List ℕ

-- the set has the pair
unfoldable pub has : Pairs → ℕ → ℕ → Bool
has rows a b = pairs_of rows.words rows.width rows.count a b

-- the list has the pair
abbrev pub links : List (ℕ × ℕ) → ℕ → ℕ → Bool
links [] a b = false
links (e ∷ es) a b = ((a == e.0) && (b == e.1)) || links es a b
