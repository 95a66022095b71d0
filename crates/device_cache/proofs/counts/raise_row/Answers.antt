use Rattle.std.proofs.Common.{◌+◌, arith}
use Rattle.device_cache.specs.Internal.Uses.{part_uses, lines_uses, row_uses}
use Rattle.device_cache.proofs.Counting.{fewer}
use Rattle.device_cache.proofs.counts.raise_row.Goals as goal

pub returns : goal.returns
returns c f C =
    let row = c.args.row.now in
    let counted = c.raise_cells.ensures (λ slot. f slot + part_uses slot row.main) (c.raise.ensures f C) in
    fewer c.raise_cells.new.counts (λ slot. f slot + part_uses slot row.main + lines_uses slot row.lines) (λ slot. f slot + row_uses slot row) counted (λ slot. omega arith)
