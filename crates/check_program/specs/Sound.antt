-- Programs that come to the same in every order that their nodes may run in, whatever caches do.
use Rattle.std.specs.Prelude.{ℕ, List}
use Rattle.check_order.specs.Orders.{IsLeast}
use Rattle.check_state.specs.Initialized.{Initialized}
use Rattle.check_state.specs.StateValid.{StateValid}
use Rattle.program.specs.declared.program.Program.{Program}
use Rattle.check_sync.specs.Synchronized.{Synchronized}
use Rattle.check_access.specs.Views.{View, view_of, node_accesses_of}

-- "before" and "last" are meant in the least order of the nodes
pub record Sound (V : View) (order : List ℕ) : Type 0 where
  pub order_is : IsLeast V.nodes order
  pub synchronized : Synchronized V
  pub state_valid : StateValid V (node_accesses_of V order)
  pub initialized : Initialized V (node_accesses_of V order)

abbrev pub IsSound : Program → Type 0
IsSound program = (order : List ℕ) × Sound (view_of program) order
