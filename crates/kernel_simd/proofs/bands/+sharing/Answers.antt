use Rattle.std.proofs.Common.{◌≡◌, ℕ, ◌+◌, ◌-◌, ◌*◌, ◌/◌, ◌≤◌, ◌++◌, length, arith, ap, sym, ◌∙◌}
use Rattle.std.proofs.Math.Nat.{div-le_self}
use Rattle.base.specs.Shapes.{texel_bytes}
use Rattle.base.specs.Texels.{band}
use Rattle.kernel_simd.proofs.Joins.{band_join, rest_len}
use Rattle.kernel_simd.proofs.bands.+sharing.Goals as goal

pub share_out-both-requires-clause-back : goal.share_out-both-requires-clause-back
share_out-both-requires-clause-back g t c κs within =
    let b = texel_bytes c.args.texel in
    let top = c.args.count / c.args.bands in
    let le : top ≤ c.args.count = div-le_self c.args.count c.args.bands in
    let n = length c.split_at_mut-front.result.1.now in
    let whole : n + b * (c.args.width * top) ≡ b * (c.args.width * c.args.count) =
    ap (λ (k : ℕ). n + k * (c.args.width * top)) (sym c.size_of.ensures) ∙ c.split_at_mut-front.ensures.back_len ∙ c.requires.size in
    rest_len b c.args.width c.args.count top n le whole

pub share_out-returns : goal.share_out-returns
share_out-returns g t c p paints =
    let texel = c.args.texel in
    let w = c.args.width in
    let first = c.args.first in
    let count = c.args.count in
    let top = count / c.args.bands in
    let le : top ≤ count = div-le_self count c.args.bands in
    let whole : top + (count - top) ≡ count = omega (arith, le) in
    let upper = c.both.ensures.front p (λ from n out done is post. paints from n out done (is.0, omega (arith, le, is.1), is.2) post) in
    let lower = c.both.ensures.back p (λ from n out done is post. paints from n out done (omega (arith, is.0), omega (arith, le, is.1), is.2) post) in
    ap (λ l. l ++ c.both.new.back) upper
    ∙ ap (λ l. band texel w first top p ++ l) lower
    ∙ sym (band_join texel w first top (count - top) p)
    ∙ ap (λ (k : ℕ). band texel w first k p) whole
