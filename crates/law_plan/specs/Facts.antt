-- All that is asked of a recorded program, group by group.
use Rattle.law_plan.specs.Crossings.{IsFull}
use Rattle.law_plan.specs.Local.{Local}
use Rattle.law_plan.specs.Nodes.{Nodes}
use Rattle.law_plan.specs.Plans.{Plan}
use Rattle.law_plan.specs.States.{Laid, Owned, Handed, Changed}
use Rattle.check_access.specs.Views.{View}

pub record Facts (F : Plan) (V : View) (N : Nodes) : Type 0 where
  pub full : IsFull V
  pub local : Local F V N
  pub laid : Laid F V N
  pub owned : Owned F V N
  pub handed : Handed F V N
  pub changed : Changed F V N
