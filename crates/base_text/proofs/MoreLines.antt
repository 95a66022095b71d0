-- One line more.
use Rattle.std.proofs.Common.{◌≡◌, ℕ, zero, suc, ◌+◌, ◌*◌, ◌<◌, List, [], ◌∷◌, ◌++◌, length, take, drop, min, replicate, refl, ◌∙◌, append_assoc, add-one, arith}
use Rattle.std.proofs.Math.Nat.{min_comm}
use Rattle.std.proofs.lemmas.List.{take_min}
use Rattle.base_text.specs.HexLines.{hex_line, first_lines}

pub last_one : (n m x : ℕ) → n < m → drop n (take (n + 1) (replicate m x)) ≡ x ∷ []
last_one n zero x lt = absurd (omega arith)
last_one zero (suc m) x lt = refl
last_one (suc n) (suc m) x lt = let more = last_one n m x (omega arith) in rw add-one (rw add-one at more)

take-min_length : (n : ℕ) (xs : List ℕ) → take (min (length xs) n) xs ≡ take n xs
take-min_length n xs = rw (min_comm (length xs) n) (take_min n xs)

pub first_lines-more : (old now new bytes rest : List ℕ) (i k : ℕ) → now ≡ old ++ first_lines bytes i → rest ≡ drop (32 * i) bytes → k ≡ min (length rest) 32 → new ≡ now ++ hex_line (take k rest) → new ≡ old ++ first_lines bytes (i + 1)
first_lines-more old now new bytes rest i k so_far is count one =
    let line : take k rest ≡ take 32 (drop (32 * i) bytes) = rw (count, take-min_length 32 rest, is) refl in
    one ∙ rw (so_far, line, add-one) (append_assoc old (first_lines bytes i) (hex_line (take 32 (drop (32 * i) bytes))))
