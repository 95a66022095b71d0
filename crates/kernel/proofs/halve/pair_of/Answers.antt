use Rattle.std.proofs.Common.{◌≡◌, ◌+◌, ◌*◌, ◌∙◌, ap, take, arith}
use Rattle.std.proofs.lemmas.List.{take_rest}
use Rattle.kernel.proofs.Numbers.{pair_sum}
use Rattle.kernel.proofs.halve.pair_of.Goals as goal

pub returns-clause-value : goal.returns-clause-value
returns-clause-value c =
    let args = c.args in
    let bytes = args.src.now in
    let i = args.y * args.grid.width + 2 * args.x in
    let next : args.y * args.grid.width + (2 * args.x + 1) ≡ i + 1 = omega arith in
    let is = c.in-Some.ensures.cases.same ∙ ap (take 2) (take_rest bytes i) in
    rw (c.requires.texel, next) (pair_sum bytes c.in-Some.pair.now i c.from_le_bytes-both.result c.type_inv.src is c.from_le_bytes-both.ensures)
