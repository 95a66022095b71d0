use Rattle.std.proofs.Common.{◌≡◌, ◌==◌, ◌<◌, ◌∙◌, length, get_or, ap, sym, arith}
use Rattle.std.proofs.lemmas.Bool.{eq-eqb, ne_eqb}
use Rattle.std.proofs.lemmas.List.{length-map}
use Rattle.std.proofs.lemmas.List.Sums.{position_or_len_is}
use Rattle.base.specs.Shapes.{shape_at, bytes_of}
use Rattle.compile_groups.specs.Placed.{placed}
use Rattle.compile_barriers.proofs.under.place_of.Goals as goal

pub returns-then-placed-b-clause-some : goal.returns-then-placed-b-clause-some
returns-then-placed-b-clause-some c =
    let xs = placed c.args.groups.now in
    let size : length c.sizes.result.now ≡ length (placed c.args.groups.now) = ap length c.sizes.ensures.sizes ∙ length-map (placed c.args.groups.now) (λ unit. bytes_of (shape_at c.args.groups.now.shapes unit)) in
    let test = c.loop-b-test.true in
    let here : get_or (placed c.args.groups.now) c.loop-b.b 0 ≡ c.args.unit = sym (ap (λ l. get_or l c.loop-b.b 0) c.placed.ensures) ∙ c.if-placed-b.true in
    let low : c.loop-b.b < length (placed c.args.groups.now) = omega (arith, size, test) in
    (sym (position_or_len_is (λ u. u == c.args.unit) xs c.loop-b.b 0 (omega (arith, low)) (λ k lt. ne_eqb (get_or xs k 0) c.args.unit (c.loop-b.invariant k lt)) (λ lt. eq-eqb (get_or xs c.loop-b.b 0) c.args.unit here)), low)

pub returns-clause-none : goal.returns-clause-none
returns-clause-none c =
    let xs = placed c.args.groups.now in
    let size : length c.sizes.result.now ≡ length (placed c.args.groups.now) = ap length c.sizes.ensures.sizes ∙ length-map (placed c.args.groups.now) (λ unit. bytes_of (shape_at c.args.groups.now.shapes unit)) in
    let test = c.loop-b-test.false in
    position_or_len_is (λ u. u == c.args.unit) xs (length xs) 0 (omega arith) (λ k lt. ne_eqb (get_or xs k 0) c.args.unit (c.loop-b.invariant k (omega (arith, size, test, lt)))) (λ lt. absurd (omega (arith, lt)))
