-- Steps on the path of a fault.
use Rattle.std.specs.Prelude.{ℕ, List, [], ◌∷◌}
use Rattle.base.specs.declared.path.Leg.{Leg}
use Rattle.base.specs.declared.path.Leg.TheVariants.{Member, Position}

-- to an entry of a list that is a member
abbrev pub entry : List ℕ → ℕ → List Leg
entry list i = Member list ∷ Position i ∷ []
