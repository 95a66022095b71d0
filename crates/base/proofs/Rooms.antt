-- What the entries of a list take of a room for which it lasts.
use Rattle.std.proofs.Common.{◌≡◌, ◌≤◌, ◌+◌, ◌-◌, ℕ, suc, Bool, true, false, nat_lt, List, [], ◌∷◌, Some, None, if◌then◌else◌, refl, ap, ◌∙◌, arith}
use Rattle.std.specs.List.{sum_by}
use Rattle.std.proofs.lemmas.Bool.{le-ltb, ltb-false}
use Rattle.std.proofs.lemmas.List.Sums.{sum_by-cons}
use Rattle.base.specs.Rooms.{first_over, room_after}

-- what is left of a room, and what its entries take
pub left_over : {X : Type 0} (size : X → ℕ) (xs : List X) (room i : ℕ) → first_over size room i xs ≡ None → room_after size room xs + sum_by size xs ≡ room
left_over size [] room i none = omega arith
left_over size (x ∷ xs) room i none = ap (λ taken. room_after size (room - size x) xs + taken) (sum_by-cons size x xs) ∙ by_test (nat_lt room (size x)) refl none (λ left. left_over size xs (room - size x) (suc i) left)
  where
    by_test : (b : Bool) → nat_lt room (size x) ≡ b → (if b then Some i else first_over size (room - size x) (suc i) xs) ≡ None → (first_over size (room - size x) (suc i) xs ≡ None → room_after size (room - size x) xs + sum_by size xs ≡ room - size x) → room_after size (room - size x) xs + (size x + sum_by size xs) ≡ room
    by_test true e none more = absurd cc
    by_test false e none more = let fits : size x ≤ room = ltb-false room (size x) e in let rest = more none in omega arith

pub all_fit : {X : Type 0} (size : X → ℕ) (xs : List X) (room i : ℕ) → first_over size room i xs ≡ None → sum_by size xs ≤ room
all_fit size xs room i none = let e = left_over size xs room i none in omega arith

-- sizes that are no more than the room together
pub never_over : {X : Type 0} (size : X → ℕ) (xs : List X) (room i : ℕ) → sum_by size xs ≤ room → first_over size room i xs ≡ None
never_over size [] room i fits = refl
never_over size (x ∷ xs) room i fits =
    let sum = sum_by-cons size x xs in
    ap (λ t. if t then Some i else first_over size (room - size x) (suc i) xs) (le-ltb room (size x) (omega (arith, sum, fits)))
    ∙ never_over size xs (room - size x) (suc i) (omega (arith, sum, fits))
