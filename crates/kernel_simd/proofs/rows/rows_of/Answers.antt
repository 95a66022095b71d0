use Rattle.std.proofs.Common.{◌*◌, ◌∙◌, ℕ, length, arith, ap, sym}
use Rattle.kernel_simd.proofs.Joins.{rows_end, texel_of_rows}
use Rattle.kernel_simd.proofs.rows.rows_of.Goals as goal

pub overflow_add-result : goal.overflow_add-result
overflow_add-result c =
    let g = c.args.grid in
    let len = c.requires.size ∙ ap (λ (b : ℕ). b * (g.width * g.height)) (sym c.size_of.ensures) in
    let end = rows_end c.size_of.result g.width c.args.first c.args.count g.height (length c.args.src.now) c.requires.rows len in
    record { fits = omega (arith, end) }

pub slice_bounds-result-end : goal.slice_bounds-result-end
slice_bounds-result-end c =
    let g = c.args.grid in
    let len = c.requires.size ∙ ap (λ (b : ℕ). b * (g.width * g.height)) (sym c.size_of.ensures) in
    let end = rows_end c.size_of.result g.width c.args.first c.args.count g.height (length c.args.src.now) c.requires.rows len in
    omega (arith, end)

pub returns-clause-texels : goal.returns-clause-texels
returns-clause-texels c x y hx hy =
    let g = c.args.grid in
    texel_of_rows g.texel c.size_of.result g.width c.args.first c.args.count x y _ c.args.src.now c.size_of.ensures (omega arith) hx hy
