-- Orders of a program's nodes in which the commands stand as the frame declares them.
use Rattle.std.specs.Prelude.{◌≡◌, ℕ, List, map, Bool}
use Rattle.std.specs.List.{filter_map}
use Rattle.base.specs.Operands.{mapped}
use Rattle.base.specs.declared.op.Op.{Op}
use Rattle.check_program.specs.Apart.{op_at}
use Rattle.frame.specs.Numbered.{NumberedFrame}
use Rattle.compile_groups.specs.Groups.{grouping}
use Rattle.compile_groups.specs.declared.grouping.Grouping.{Grouping}
use Rattle.check_order.specs.Orders.{Order}
use Rattle.compile_record.specs.Pieces.{piece_of}
use Rattle.program.specs.declared.program.Program.{Program}
use Rattle.check_access.specs.Views.{view_of}

-- the operations of the nodes of an order, without the nodes that are no commands
abbrev pub ops_in : Program → List ℕ → List (Op ℕ)
ops_in program order = filter_map (op_at program) order

-- the operations of a frame's commands, over the pieces of its units
abbrev pub declared_ops : Grouping → List (Op ℕ)
declared_ops G = map (λ command. mapped (piece_of G) command.op) G.commands

pub record InDeclaredOrder (frame : NumberedFrame) (kept : List Bool) (program : Program) (order : List ℕ) : Type 0 where
  pub order_is : Order (view_of program).nodes order
  pub declared : ops_in program order ≡ declared_ops (grouping frame kept)
