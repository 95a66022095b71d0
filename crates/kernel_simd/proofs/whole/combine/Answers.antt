use Rattle.std.proofs.Common.{◌≡◌, ℕ, ◌+◌, ◌*◌, ◌≤◌, List, length, arith, sym, ◌∙◌, subst}
use Rattle.base.specs.Kernels.{fun_of}
use Rattle.base.specs.Shapes.{texel_bytes}
use Rattle.base.specs.Texels.{painted, picture}
use Rattle.base.specs.declared.grid.Grid.{Grid}
use Rattle.kernel.proofs.Fitting.{two_first, two_second}
use Rattle.kernel_simd.proofs.whole.combine.Goals as goal

pub paint_rows-requires-clause-calls : goal.paint_rows-requires-clause-calls
paint_rows-requires-clause-calls g c κs within from n out is =
    let first = c.args.from.0 in
    let second = c.args.from.1 in
    let rows = λ (bytes : List ℕ) (k : Grid). length bytes ≡ texel_bytes k.texel * (k.width * k.height) in
    let a = subst (rows c.args.a.now) (sym c.canvas-grid.ensures) (c.requires.a ∙ two_first first second c.args.to c.requires.fits) in
    let b = subst (rows c.args.b.now) (sym c.canvas-grid.ensures) (c.requires.b ∙ two_second first second c.args.to c.requires.fits) in
    let inside : from + n ≤ 0 + c.canvas-grid.result.height = is.1 in
    (a, b, is.2, omega (arith, inside))

pub returns-clause-bytes : goal.returns-clause-bytes
returns-clause-bytes g c =
    let a = c.args.a.now in
    let b = c.args.b.now in
    let grid = c.canvas-grid.result in
    let P : Grid → Type 0 = λ k. c.paint_rows.result.items ≡ painted k (λ x y. fun_of k.texel c.args.fun (picture k a x y) (picture k b x y)) in
    subst P c.canvas-grid.ensures (c.paint_rows.ensures.bytes (λ x y. fun_of grid.texel c.args.fun (picture grid a x y) (picture grid b x y)) (λ from n out done is post. post))
