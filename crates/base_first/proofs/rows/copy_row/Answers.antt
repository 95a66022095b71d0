use Rattle.std.proofs.Common.{◌+◌, ◌*◌, get_or, subst, arith}
use Rattle.base_first.proofs.Moves.{Filled, same_as, filled_set, filled_others, other_row}
use Rattle.base_first.proofs.rows.copy_row.Goals as goal

pub loop-e-preserved : goal.loop-e-preserved
loop-e-preserved c =
    let ys = c.args.numbers.now in
    let xs = c.loop-e.numbers in
    let e = c.loop-e.e in
    let size = c.loop-e.invariant.size in
    filled_set ys xs (c.args.i * c.args.width) e (get_or xs (c.args.j * c.args.width + e) 0) (same_as ys c.args.width c.args.j) c.loop-e.invariant (omega (arith, size, c.requires.i, c.loop-e-test.true))
    (other_row ys xs c.args.width c.args.i c.args.j e (same_as ys c.args.width c.args.j) c.requires.apart c.loop-e-test.true c.loop-e.invariant)

pub returns-clause-others : goal.returns-clause-others
returns-clause-others c = filled_others c.args.numbers.now c.loop-e.numbers c.args.width c.args.i (same_as c.args.numbers.now c.args.width c.args.j)
    (subst (λ n. Filled c.args.numbers.now c.loop-e.numbers (c.args.i * c.args.width) n (same_as c.args.numbers.now c.args.width c.args.j)) (omega arith) c.loop-e.invariant)
