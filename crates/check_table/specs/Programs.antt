-- The table of a program's order, whose nodes stand alone.
use Rattle.std.specs.Prelude.{[]}
use Rattle.check_access.specs.Views.{View}
use Rattle.check_table.specs.Joined.{joined}
use Rattle.check_table.specs.Tables.{IsFilled, IsOrderTable}
use Rattle.check_table.specs.declared.table.OrderTable.{OrderTable}

-- a table of the order of the view's nodes
pub record TableOf (V : View) (table : OrderTable) : Type 0 where
  pub filled : IsFilled table
  pub order : IsOrderTable (joined V.nodes []) table
