use Rattle.std.proofs.Common.{◌≡◌, ℕ, ◌+◌, ap, arith}
use Rattle.device_cache.specs.Internal.Rows.{changed}
use Rattle.device_cache.specs.Internal.Uses.{part_uses, cell_uses, row_uses}
use Rattle.device_cache.specs.Places.{line_by}
use Rattle.device_cache.proofs.Counting.{fewer, changed_uses}
use Rattle.device_cache.proofs.counts.recount.Goals as goal

pub returns : goal.returns
returns c f C =
    let row = c.args.row.now in
    let g = c.args.agent in
    let change = c.args.change in
    let main = row.main in
    let line = line_by row g in
    let next = changed g change row in
    let raised = c.raise_cell.ensures (λ slot. f slot + row_uses slot row + part_uses slot c.main_after.result) (c.raise.ensures (λ slot. f slot + row_uses slot row) C) in
    let same : (slot : ℕ) → f slot + row_uses slot next + cell_uses slot line + part_uses slot main ≡ f slot + row_uses slot row + part_uses slot c.main_after.result + cell_uses slot c.line_after.result = λ slot.
    omega (arith, changed_uses slot g change row (omega (arith, c.requires.row.lines, c.requires.agent)), ap (part_uses slot) c.main_after.ensures, ap (cell_uses slot) c.line_after.ensures) in
    c.lower_cell.ensures (λ slot. f slot + row_uses slot next) (c.lower.ensures (λ slot. f slot + row_uses slot next + cell_uses slot line) (fewer c.raise_cell.new.counts (λ slot. f slot + row_uses slot row + part_uses slot c.main_after.result + cell_uses slot c.line_after.result) (λ slot. f slot + row_uses slot next + cell_uses slot line + part_uses slot main) raised (λ slot. omega (arith, same slot))))
