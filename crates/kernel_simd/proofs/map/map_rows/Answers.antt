use Rattle.std.proofs.Common.{ℕ, ◌%◌, ap, length}
use Rattle.base.specs.Kernels.{fun_of}
use Rattle.base.specs.Texels.{modulus, texel_at, picture}
use Rattle.kernel_simd.proofs.Joins.{rows_from}
use Rattle.kernel_simd.proofs.map.map_rows.Goals as goal

pub returns : goal.returns
returns c =
    let g = c.args.grid in
    let t = g.texel in
    let fun = c.args.fun in
    let value = c.args.value % modulus t in
    rows_from t g.width c.args.first c.args.count (length c.args.out.now) (λ k. fun_of t fun (texel_at t c.rows_of.result.now k) value) (λ x y. fun_of t fun (picture g c.args.src.now x y) value)
    c.map_all.new.out c.type_inv.out c.map_all.auto.out c.requires.out c.map_all.ensures
    (λ x y hx hy. ap (λ (n : ℕ). fun_of t fun n value % modulus t) (c.rows_of.ensures.texels x y hx hy))
