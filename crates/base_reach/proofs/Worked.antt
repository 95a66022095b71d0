-- Worked rows: what the definitions come to on written-out values.
use Rattle.std.proofs.Common.{◌≡◌, ℕ, ◌<◌, Bool, List, [], ◌∷◌, true, false, refl, arith}
use Rattle.base_reach.specs.Bits.{bit}
use Rattle.base_reach.specs.Pairs.{Pairs, has, links}
use Rattle.base_reach.specs.Paths.{Path, one, then_on}

lowest_bit_first : bit (5 ∷ []) 2 ≡ true
unfolding bit
lowest_bit_first = refl

bit_not_set : bit (5 ∷ []) 1 ≡ false
unfolding bit
bit_not_set = refl

second_word : bit (0 ∷ 1 ∷ []) 64 ≡ true
unfolding bit
second_word = refl

-- three rows of a word: 0 leads to 1 and 2
small : Pairs
small = record { count = 3; width = 1; words = 6 ∷ 0 ∷ 0 ∷ [] }

pair_there : has small 0 2 ≡ true
unfolding small has bit
pair_there = refl

pair_not_there : has small 1 2 ≡ false
unfolding small has bit
pair_not_there = refl

number_past_the_count : has small 0 64 ≡ false
unfolding small has bit
number_past_the_count = refl

chain : List (ℕ × ℕ)
chain = (0, 1) ∷ (1, 2) ∷ []

an_edge : Path (links chain) 0 1
unfolding chain
an_edge = one refl

two_edges : Path (links chain) 0 2
unfolding chain
two_edges = then_on (one refl) (one {a = 1} refl)

-- where each edge goes to a greater number, so does each path; so none comes back
forward : (edge : ℕ → ℕ → Bool) → ((a b : ℕ) → edge a b ≡ true → a < b) → (a b : ℕ) → Path edge a b → a < b
forward edge up a b (one e) = up a b e
forward edge up a b (then_on {b = m} p q) = let first = forward edge up a m p in let rest = forward edge up m b q in omega arith

not_to_itself : (edge : ℕ → ℕ → Bool) → ((a b : ℕ) → edge a b ≡ true → a < b) → (a : ℕ) → Path edge a a → ⊥
not_to_itself edge up a p = let less = forward edge up a a p in absurd (omega arith)
