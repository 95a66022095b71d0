use Rattle.std.proofs.Common.{◌+◌, sym, subst}
use Rattle.device_cache.specs.declared.cell.Cell.{Cell}
use Rattle.device_cache.specs.Internal.Uses.{cell_uses, Counts}
use Rattle.device_cache.proofs.counts.raise_cell.Goals as goal

pub returns-in-Clean : goal.returns-in-Clean
returns-in-Clean c = λ f C. subst (λ (cell : Cell). Counts c.raise.new.counts (λ slot. f slot + cell_uses slot cell)) (sym c.in-Clean.is) (c.raise.ensures f C)

pub returns-in-Dirty : goal.returns-in-Dirty
returns-in-Dirty c = λ f C. subst (λ (cell : Cell). Counts c.raise-in-Dirty.new.counts (λ slot. f slot + cell_uses slot cell)) (sym c.in-Dirty.is) (c.raise-in-Dirty.ensures f C)
