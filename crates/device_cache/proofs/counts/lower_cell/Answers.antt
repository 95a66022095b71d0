use Rattle.std.proofs.Common.{◌+◌, subst}
use Rattle.device_cache.specs.declared.cell.Cell.{Cell}
use Rattle.device_cache.specs.Internal.Uses.{cell_uses, Counts}
use Rattle.device_cache.proofs.counts.lower_cell.Goals as goal

pub returns-in-Clean : goal.returns-in-Clean
returns-in-Clean c = λ f C. c.lower.ensures f (subst (λ (cell : Cell). Counts c.args.counts.now (λ slot. f slot + cell_uses slot cell)) c.in-Clean.is C)

pub returns-in-Dirty : goal.returns-in-Dirty
returns-in-Dirty c = λ f C. c.lower-in-Dirty.ensures f (subst (λ (cell : Cell). Counts c.args.counts.now (λ slot. f slot + cell_uses slot cell)) c.in-Dirty.is C)
