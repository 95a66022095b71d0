use Rattle.std.proofs.Common.{ℕ, ◌+◌, ◌*◌, ◌%◌, ap, ◌∙◌, length}
use Rattle.base.specs.Kernels.{fun_of}
use Rattle.base.specs.Texels.{modulus, texel_at, picture}
use Rattle.kernel_simd.proofs.Joins.{rows_from}
use Rattle.kernel_simd.proofs.combine.combine_rows.Goals as goal

pub returns : goal.returns
returns c =
    let g = c.args.grid in
    let t = g.texel in
    let fun = c.args.fun in
    let a = c.rows_of-a.result.now in
    let b = c.rows_of-b.result.now in
    rows_from t g.width c.args.first c.args.count (length c.args.out.now) (λ k. fun_of t fun (texel_at t a k) (texel_at t b k)) (λ x y. fun_of t fun (picture g c.args.a.now x y) (picture g c.args.b.now x y))
    c.combine_all.new.out c.type_inv.out c.combine_all.auto.out c.requires.out c.combine_all.ensures (λ x y hx hy.
    ap (λ (n : ℕ). fun_of t fun n (texel_at t b (y * g.width + x)) % modulus t) (c.rows_of-a.ensures.texels x y hx hy)
    ∙ ap (λ (n : ℕ). fun_of t fun (picture g c.args.a.now x (c.args.first + y)) n % modulus t) (c.rows_of-b.ensures.texels x y hx hy))
