-- Rooms of which the entries of a list spend, one after another.
use Rattle.std.specs.Prelude.{ℕ, suc, List, [], ◌∷◌, ◌≡◌, ◌-◌, nat_lt, Option, Some, None, Result, Ok, Err, if◌then◌else◌}
use Rattle.std.specs.Borrow.{Bor}
use Rattle.base.specs.Walks.{StandsAt}

abbrev pub go_on : {Room Y : Type 0} → (Room → Result Room Y) → Result Room Y → Result Room Y
go_on next (Ok left) = next left
go_on next (Err place) = Err place

-- what the entries of a list leave of a room, each spending of what the ones before it left, or what the first says for which it does not last
abbrev pub spend_in : {Room X Y : Type 0} → (Room → ℕ → X → Result Room Y) → Room → ℕ → List X → Result Room Y
spend_in spend room i [] = Ok room
spend_in spend room i (x ∷ xs) = go_on (λ left. spend_in spend left (suc i) xs) (spend room i x)

-- where it does not last
abbrev pub not_lasting : {Room Y : Type 0} → Result Room Y → Option Y
not_lasting (Ok left) = None
not_lasting (Err place) = Some place

-- at each place of a list and its entry, what a call may leave of a room is what the rule leaves
abbrev pub LeavesAs : {Room X Y : Type 0} → (Room → ℕ → Bor X → Y → Type 0) → List X → (Room → ℕ → X → Y) → Type 0
LeavesAs post xs rule = (room : _) (i : ℕ) (x : Bor _) (left : _) → StandsAt xs i x.now → post room i x left → left ≡ rule room i x.now

-- the first entry, the positions beginning at i, with which the sizes together are more than the room
abbrev pub first_over : {X : Type 0} → (X → ℕ) → ℕ → ℕ → List X → Option ℕ
first_over size room i [] = None
first_over size room i (x ∷ xs) = if nat_lt room (size x) then Some i else first_over size (room - size x) (suc i) xs

-- the room that the sizes leave
abbrev pub room_after : {X : Type 0} → (X → ℕ) → ℕ → List X → ℕ
room_after size room [] = room
room_after size room (x ∷ xs) = room_after size (room - size x) xs

-- the size of an entry that a call may give is this one
abbrev pub SizesAs : {X : Type 0} → (Bor X → ℕ → Type 0) → (X → ℕ) → Type 0
SizesAs post size = (x : Bor _) (n : ℕ) → post x n → n ≡ size x.now
