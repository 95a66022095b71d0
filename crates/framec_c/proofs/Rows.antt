-- Worked rows: what is left in a room, on written-out bytes.
use Rattle.std.proofs.Common.{◌≡◌, [], ◌∷◌, refl}
use Rattle.framec_c.specs.Calls.{placed}

-- two bytes in a room of three, of which the last is as it was
front_taken : placed (7 ∷ 8 ∷ []) (1 ∷ 2 ∷ 3 ∷ []) ≡ 7 ∷ 8 ∷ 3 ∷ []
front_taken = refl

-- a room of just so many bytes is taken
all_taken : placed (7 ∷ 8 ∷ []) (1 ∷ 2 ∷ []) ≡ 7 ∷ 8 ∷ []
all_taken = refl

-- a smaller one is as it was, and has no front of the text
as_it_was : placed (7 ∷ 8 ∷ []) (1 ∷ []) ≡ 1 ∷ []
as_it_was = refl

-- no text leaves a room as it was
none_placed : placed [] (1 ∷ 2 ∷ []) ≡ 1 ∷ 2 ∷ []
none_placed = refl
