use Rattle.std.proofs.Common.{◌==◌, ℕ, ◌+◌, ◌*◌, ◌%◌, ap, ◌∙◌, length}
use Rattle.std.specs.Prelude.{if◌then◌else◌}
use Rattle.base.specs.Texels.{modulus, texel_at, picture}
use Rattle.kernel_simd.proofs.Joins.{rows_from}
use Rattle.kernel_simd.proofs.select.select_rows.Goals as goal

pub returns : goal.returns
returns c =
    let g = c.args.grid in
    let t = g.texel in
    let m = c.rows_of-mask.result.now in
    let a = c.rows_of-a.result.now in
    let b = c.rows_of-b.result.now in
    let mask = c.args.mask.now in
    let own = c.args.a.now in
    let other = c.args.b.now in
    rows_from t g.width c.args.first c.args.count (length c.args.out.now)
    (λ k. if texel_at t m k == 0 then texel_at t b k else texel_at t a k)
    (λ x y. if picture g mask x y == 0 then picture g other x y else picture g own x y)
    c.select_all.new.out c.type_inv.out c.select_all.auto.out c.requires.out c.select_all.ensures (λ x y hx hy.
    let k = y * g.width + x in
    let row = c.args.first + y in
    ap (λ (n : ℕ). (if n == 0 then texel_at t b k else texel_at t a k) % modulus t) (c.rows_of-mask.ensures.texels x y hx hy)
    ∙ ap (λ (n : ℕ). (if picture g mask x row == 0 then texel_at t b k else n) % modulus t) (c.rows_of-a.ensures.texels x y hx hy)
    ∙ ap (λ (n : ℕ). (if picture g mask x row == 0 then n else picture g own x row) % modulus t) (c.rows_of-b.ensures.texels x y hx hy))
