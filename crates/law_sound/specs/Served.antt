-- What alias barriers serve.
use Rattle.std.specs.Prelude.{◌≡◌, ℕ, true}
use Rattle.law_plan.specs.Crossings.{Sooner}
use Rattle.law_plan.specs.Masks.{Takes}
use Rattle.law_plan.specs.Nodes.{Nodes}
use Rattle.law_plan.specs.Plans.{Plan}
use Rattle.law_plan.specs.Spots.{OfMember}
use Rattle.check_access.specs.Views.{View}
use Rattle.check_access.specs.declared.access.Access.{Access}

-- on one queue an alias barrier serves the members of the last group of a unit that had the bytes
abbrev pub ServeEarlier : Plan → View → Nodes → Type 0
ServeEarlier F V N = (g h c : ℕ) (a : Access) → F.over g h ≡ true → OfMember F V N c g a → Sooner V.nodes (N.command c) (N.alias h) → Takes V (N.command c) a (N.alias h)
