use Rattle.std.proofs.Common.{◌≡◌, take, map}
use Rattle.base.specs.Operands.{mapped}
use Rattle.law_window.specs.Names.{rename_in}
use Rattle.law_window.specs.Passes.{renamed_spot}
use Rattle.flight.proofs.passes.renamed_ops.Given as goal

abbrev pub invariant-loop-op : goal.invariant-loop-op
invariant-loop-op l = l.renamed ≡ map (mapped (renamed_spot (rename_in l.i l.frame))) (take l.op-index l.ops)
