-- Walks over lists that know the position of each entry.
use Rattle.std.specs.Prelude.{ℕ, suc, List, [], ◌∷◌, ◌≡◌, ◌<◌, length, get_or, Option, None}
use Rattle.std.specs.Borrow.{Bor}
use Rattle.std.specs.Option.{option_or}

-- the first answer that a rule gives at an entry of a list, whose positions begin at i
abbrev pub first_in : {X Y : Type 0} → (ℕ → X → Option Y) → ℕ → List X → Option Y
first_in rule i [] = None
first_in rule i (x ∷ xs) = option_or (rule i x) (first_in rule (suc i) xs)

-- x stands at place i of a list
abbrev pub StandsAt : {X : Type 0} → List X → ℕ → X → Type 0
StandsAt xs i x = (i < length xs) × (x ≡ get_or xs i x)

-- at each place of a list and its entry, what a call may answer is what the rule says
abbrev pub AnswersAs : {X Y : Type 0} → (ℕ → Bor X → Y → Type 0) → List X → (ℕ → X → Y) → Type 0
AnswersAs post xs rule = (i : ℕ) (x : Bor _) (answer : _) → StandsAt xs i x.now → post i x answer → answer ≡ rule i x.now
