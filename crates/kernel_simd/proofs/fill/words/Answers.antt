use Rattle.std.proofs.Common.{◌/◌, length, refl, arith}
use Rattle.base.specs.declared.shape.Texel.TheVariants.{R32}
use Rattle.kernel_simd.proofs.Joins.{rows_from}
use Rattle.kernel_simd.proofs.fill.words.Goals as goal

pub returns : goal.returns
returns c =
    let n = length c.args.out.now in
    let word = c.args.word in
    rows_from R32 (n / 4) 0 1 n (λ k. word) (λ x y. word) c.lay.new.out c.type_inv.out c.lay.auto.out (omega arith)
    (c.lay.ensures R32 (λ k. word) (λ b is_last block place post. post)) (λ x y hx hy. refl)
