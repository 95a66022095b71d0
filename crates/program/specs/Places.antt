-- What the entries of a list give, each by its position.
use Rattle.std.specs.Prelude.{ℕ, suc, List, [], ◌∷◌, ◌++◌}

-- what each entry of a list gives, one after another
abbrev pub all_in : {X Y : Type 0} → (ℕ → X → List Y) → ℕ → List X → List Y
all_in gives i [] = []
all_in gives i (x ∷ xs) = gives i x ++ all_in gives (suc i) xs
