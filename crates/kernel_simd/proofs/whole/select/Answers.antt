use Rattle.std.proofs.Common.{◌≡◌, ◌==◌, ℕ, ◌+◌, ◌*◌, ◌≤◌, List, length, arith, sym, ◌∙◌, subst}
use Rattle.std.specs.Prelude.{if◌then◌else◌}
use Rattle.base.specs.Shapes.{texel_bytes}
use Rattle.base.specs.Texels.{painted, picture}
use Rattle.base.specs.declared.grid.Grid.{Grid}
use Rattle.kernel.proofs.Fitting.{two_first, two_second, three_pair, three_third}
use Rattle.kernel_simd.proofs.whole.select.Goals as goal

pub paint_rows-requires-clause-calls : goal.paint_rows-requires-clause-calls
paint_rows-requires-clause-calls g c κs within from n out is =
    let first = c.args.from.0 in
    let second = c.args.from.1 in
    let third = c.args.from.2 in
    let to = c.args.to in
    let pair = three_pair first second third to c.requires.fits in
    let rows = λ (bytes : List ℕ) (k : Grid). length bytes ≡ texel_bytes k.texel * (k.width * k.height) in
    let mask = subst (rows c.args.mask.now) (sym c.canvas-grid.ensures) (c.requires.mask ∙ two_first first second to pair) in
    let a = subst (rows c.args.a.now) (sym c.canvas-grid.ensures) (c.requires.a ∙ two_second first second to pair) in
    let b = subst (rows c.args.b.now) (sym c.canvas-grid.ensures) (c.requires.b ∙ three_third first second third to c.requires.fits) in
    let inside : from + n ≤ 0 + c.canvas-grid.result.height = is.1 in
    (mask, a, b, is.2, omega (arith, inside))

pub returns-clause-bytes : goal.returns-clause-bytes
returns-clause-bytes g c =
    let mask = c.args.mask.now in
    let a = c.args.a.now in
    let b = c.args.b.now in
    let grid = c.canvas-grid.result in
    let P : Grid → Type 0 = λ k. c.paint_rows.result.items ≡ painted k (λ x y. if picture k mask x y == 0 then picture k b x y else picture k a x y) in
    subst P c.canvas-grid.ensures (c.paint_rows.ensures.bytes (λ x y. if picture grid mask x y == 0 then picture grid b x y else picture grid a x y) (λ from n out done is post. post))
