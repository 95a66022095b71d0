use Rattle.std.proofs.Common.{◌≡◌, ℕ, ◌+◌, ◌*◌, ◌%◌, ◌≤◌, List, length, arith, sym, ◌∙◌, subst}
use Rattle.base.specs.Kernels.{fun_of}
use Rattle.base.specs.Shapes.{texel_bytes}
use Rattle.base.specs.Texels.{modulus, painted, picture}
use Rattle.base.specs.declared.grid.Grid.{Grid}
use Rattle.kernel.proofs.Fitting.{same_bytes}
use Rattle.kernel_simd.proofs.whole.map.Goals as goal

pub paint_rows-requires-clause-calls : goal.paint_rows-requires-clause-calls
paint_rows-requires-clause-calls g c κs within from n out is =
    let rows = λ (bytes : List ℕ) (k : Grid). length bytes ≡ texel_bytes k.texel * (k.width * k.height) in
    let src = subst (rows c.args.src.now) (sym c.canvas-grid.ensures) (c.requires.src ∙ same_bytes c.args.from c.args.to c.requires.fits) in
    let inside : from + n ≤ 0 + c.canvas-grid.result.height = is.1 in
    (src, is.2, omega (arith, inside))

pub returns-clause-bytes : goal.returns-clause-bytes
returns-clause-bytes g c =
    let src = c.args.src.now in
    let grid = c.canvas-grid.result in
    let P : Grid → Type 0 = λ k. c.paint_rows.result.items ≡ painted k (λ x y. fun_of k.texel c.args.fun (picture k src x y) (c.args.value % modulus k.texel)) in
    subst P c.canvas-grid.ensures (c.paint_rows.ensures.bytes (λ x y. fun_of grid.texel c.args.fun (picture grid src x y) (c.args.value % modulus grid.texel)) (λ from n out done is post. post))
