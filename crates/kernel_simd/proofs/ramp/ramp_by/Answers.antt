use Rattle.std.proofs.Common.{◌≡◌, ℕ, ◌+◌, ◌-◌, ◌*◌, ◌≤◌, ◌++◌, ◌∙◌, length, sym, ap, arith}
use Rattle.std.proofs.lemmas.Slice.{take-put_mid}
use Rattle.base.specs.Texels.{band}
use Rattle.kernel.proofs.Pictures.{band_none, band_more}
use Rattle.kernel_simd.proofs.Joins.{rows_end}
use Rattle.kernel_simd.proofs.ramp.ramp_by.Goals as goal

pub loop-y-init : goal.loop-y-init
loop-y-init c =
    let z : c.size_of.result * c.args.width * 0 ≡ 0 = omega arith in
    rw z (sym (band_none c.args.texel c.args.width c.args.first _))

pub slice_bounds-ramp_row-end : goal.slice_bounds-ramp_row-end
slice_bounds-ramp_row-end c =
    let w = c.args.width in
    let len = c.requires.out ∙ ap (λ (b : ℕ). b * (w * c.args.count)) (sym c.size_of.ensures) in
    let end = rows_end c.size_of.result w c.loop-y.y 1 c.args.count (length c.args.out.now) (omega arith) len in
    omega (arith, end, c.loop-y.auto.out)

pub loop-y-preserved : goal.loop-y-preserved
loop-y-preserved c =
    let t = c.args.texel in
    let w = c.args.width in
    let y = c.loop-y.y in
    let row = c.size_of.result * w in
    let first = c.args.first in
    let f = λ (x y : ℕ). c.args.base + x * c.args.dx + y * c.args.dy in
    let len = c.requires.out ∙ ap (λ (b : ℕ). b * (w * c.args.count)) (sym c.size_of.ensures) in
    let within = rows_end c.size_of.result w y 1 c.args.count (length c.args.out.now) (omega arith) len in
    let start : row * y ≤ length c.loop-y.out = omega (arith, within, c.loop-y.auto.out) in
    let end : row * (y + 1) ≡ row * y + length c.ramp_row.new.row = omega arith in
    take-put_mid (row * y) (row * y + row - row * y) c.loop-y.out c.ramp_row.new.row (row * (y + 1)) end start
    ∙ ap (λ l. l ++ c.ramp_row.new.row) c.loop-y.invariant
    ∙ ap (λ l. band t w first y f ++ l) c.ramp_row.ensures
    ∙ sym (band_more t w first y f)
