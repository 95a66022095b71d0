-- Programs that are sound by the order of their nodes.
use Rattle.std.specs.Prelude.{ℕ, List}
use Rattle.check_order.specs.Orders.{IsLeast}
use Rattle.check_state.specs.Initialized.{Initialized}
use Rattle.check_state.specs.StateValid.{StateValid}
use Rattle.check_access.specs.Views.{View, node_accesses_of}
use Rattle.law_nodes.specs.Synchronized.{Synchronized}

-- as `Sound`, where accesses are synchronized by paths over all nodes
pub record SoundByNodes (V : View) (order : List ℕ) : Type 0 where
  pub order_is : IsLeast V.nodes order
  pub synchronized : Synchronized V
  pub state_valid : StateValid V (node_accesses_of V order)
  pub initialized : Initialized V (node_accesses_of V order)
