use Rattle.std.proofs.Common.{◌+◌, ◌*◌, ◌%◌, ◌^◌, length, refl, arith}
use Rattle.kernel_simd.proofs.Joins.{rows_from, risen}
use Rattle.kernel_simd.proofs.ramp.ramp_row.Goals as goal

pub returns : goal.returns
returns c =
    let t = c.args.texel in
    let w = c.args.width in
    let base = c.args.base in
    let dx = c.args.dx in
    let dy = c.args.dy in
    let y = c.args.y in
    let left = (base + y * dy % 2 ^ 32) % 2 ^ 32 in
    rows_from t w y 1 (length c.args.row.now) (λ k. left + k * dx) (λ x y. base + x * dx + y * dy) c.lay.new.out c.type_inv.row c.lay.auto.out (omega arith)
    (c.lay.ensures t (λ k. left + k * dx) (λ b is_last block place post. post b refl))
    (λ x r hx hr. risen t base dx dy w x y r hr)
