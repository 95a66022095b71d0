-- What the drain answers.
use Rattle.std.specs.Prelude.{List}
use Rattle.check_order.specs.Orders.{IsLeast, IsStuck}
use Rattle.check_order.specs.declared.drain.Drain.{Drain}
use Rattle.check_order.specs.declared.drain.Drain.TheVariants.{Whole, Stuck}
use Rattle.check_order.specs.declared.node.Node.{Node}

-- the least order, or the least node that is in no front, with its queue
abbrev pub Answers : List Node → Drain → Type 0
Answers nodes (Whole order) = IsLeast nodes order
Answers nodes (Stuck queue n) = IsStuck nodes queue n
