use Rattle.std.proofs.Common.{◌≡◌, ℕ, ◌+◌, ◌*◌, ◌<◌, ◌≤◌, ◌∙◌, ◌++◌, ◌-◌, length, sym, ap, arith}
use Rattle.std.proofs.lemmas.Slice.{take-put_mid}
use Rattle.base.specs.Kernels.{box3}
use Rattle.base.specs.Texels.{picture, band}
use Rattle.base.specs.declared.grid.Grid.{Grid}
use Rattle.base.specs.declared.shape.Texel.TheVariants.{R8}
use Rattle.kernel.proofs.Pictures.{band_none, band_more}
use Rattle.kernel.proofs.byte_blur.byte_rows.Goals as goal

row_within : (w count y : ℕ) → y < count → y * w ≤ w * count
row_within w count y h = let m : y * w ≤ count * w = grind arith in omega (arith, m)

pub loop-y-init : goal.loop-y-init
loop-y-init c = let z : 0 * c.args.grid.width ≡ 0 = omega arith in rw z (sym (band_none R8 c.args.grid.width c.args.first _))

pub loop-y-preserved : goal.loop-y-preserved
loop-y-preserved c =
    let w = c.args.grid.width in
    let y = c.loop-y.y in
    let bytes : Grid = record { width = w; height = c.args.grid.height; texel = R8 } in
    let f = box3 w c.args.grid.height (picture bytes c.args.src.now) in
    let long : length c.args.out.now ≡ 1 * (w * c.args.count) = rw c.requires.texel at c.requires.out in
    let start : y * w ≤ length c.loop-y.out = omega (arith, long, c.loop-y.auto.out, row_within w c.args.count y c.loop-y-test.true) in
    let end : (y + 1) * w ≡ y * w + length c.blur_row.new.row = omega arith in
    take-put_mid (y * w) (y * w + w - y * w) c.loop-y.out c.blur_row.new.row ((y + 1) * w) end start
    ∙ ap (λ l. l ++ c.blur_row.new.row) c.loop-y.invariant
    ∙ ap (λ l. band R8 w c.args.first y f ++ l) c.blur_row.ensures
    ∙ sym (band_more R8 w c.args.first y f)
