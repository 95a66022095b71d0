use Rattle.std.proofs.Common.{ℕ, ◌+◌, ◌≤◌, List, length, take, get_or, subst, arith}
use Rattle.std.proofs.lemmas.List.{take_all}
use Rattle.std.proofs.lemmas.List.Sums.{sum_by_more}
use Rattle.device_cache.specs.declared.cell.Cell.{Cell}
use Rattle.device_cache.specs.declared.cell.Cell.TheVariants as cells
use Rattle.device_cache.specs.Internal.Uses.{cell_uses, lines_uses, Counts}
use Rattle.device_cache.proofs.Counting.{fewer}
use Rattle.device_cache.proofs.counts.raise_cells.Goals as goal

pub loop-k-preserved : goal.loop-k-preserved
loop-k-preserved c f C =
    let lines = c.args.lines.now in
    let k = c.loop-k.k in
    let before : ℕ → ℕ = λ slot. f slot + lines_uses slot (take k lines) in
    let counted : Counts c.raise_cell.new.counts (λ slot. before slot + cell_uses slot (get_or lines k cells.Empty)) = c.raise_cell.ensures before (c.loop-k.invariant f C) in
    fewer c.raise_cell.new.counts (λ slot. before slot + cell_uses slot (get_or lines k cells.Empty)) (λ slot. f slot + lines_uses slot (take (k + 1) lines)) counted
    (λ slot. omega (arith, sum_by_more (cell_uses slot) lines k cells.Empty (omega (arith, c.loop-k-test.true))))

pub returns : goal.returns
returns c f C =
    let lines = c.args.lines.now in
    let P : List Cell → Type 0 = λ lines. Counts c.loop-k.counts (λ slot. f slot + lines_uses slot lines) in
    let end : length lines ≤ c.loop-k.k = omega (arith, c.loop-k-test.false) in
    subst P (take_all c.loop-k.k lines end) (c.loop-k.invariant f C)
