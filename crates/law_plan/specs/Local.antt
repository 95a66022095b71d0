-- What orders the accesses of a recorded program and passes their changes on.
use Rattle.law_plan.specs.Aliases.{Aliases}
use Rattle.law_plan.specs.Masks.{Masks}
use Rattle.law_plan.specs.Nodes.{Nodes, Roles, Places}
use Rattle.law_plan.specs.Plans.{Plan, Grouped}
use Rattle.law_plan.specs.Spots.{Spots}
use Rattle.check_access.specs.Views.{View}

pub record Local (F : Plan) (V : View) (N : Nodes) : Type 0 where
  pub grouped : Grouped F
  pub spots : Spots F V N
  pub roles : Roles F V N
  pub places : Places F V N
  pub masks : Masks F V N
  pub aliases : Aliases F V N
