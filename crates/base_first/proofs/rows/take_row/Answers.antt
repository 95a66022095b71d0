use Rattle.std.proofs.Common.{◌+◌, ◌*◌, get_or, sym, subst, arith}
use Rattle.base_first.proofs.Moves.{Filled, least_of, filled_set, filled_keep, filled_others, own_row, other_row, lesser, no_less}
use Rattle.base_first.proofs.rows.take_row.Goals as goal
use Rattle.base_first.proofs.rows.take_row.Goals.{then-other-numbers, else-other-numbers}

pub loop-e-preserved : goal.loop-e-preserved
loop-e-preserved c =
    let ys = c.args.numbers.now in
    let xs = c.loop-e.numbers in
    let w = c.args.width in
    let F = c.loop-e.invariant in
    let e = c.loop-e.e in
    let size = F.size in
    let mine = own_row ys xs w c.args.i e (least_of ys w c.args.i c.args.j) F in
    let its = other_row ys xs w c.args.i c.args.j e (least_of ys w c.args.i c.args.j) c.requires.apart c.loop-e-test.true F in
    elim c.if-other-numbers.branch [
      | then-other-numbers b ↦ subst (λ l. Filled ys l (c.args.i * w) (e + 1) (least_of ys w c.args.i c.args.j)) (sym b.numbers-is)
          (filled_set ys xs (c.args.i * w) e (get_or xs (c.args.j * w + e) 0) (least_of ys w c.args.i c.args.j) F (omega (arith, size, c.requires.i, c.loop-e-test.true)) (lesser _ _ _ _ mine its b.if-other-numbers.true))
      | else-other-numbers b ↦ subst (λ l. Filled ys l (c.args.i * w) (e + 1) (least_of ys w c.args.i c.args.j)) (sym b.numbers-is)
          (filled_keep ys xs (c.args.i * w) e (least_of ys w c.args.i c.args.j) F (no_less _ _ _ _ mine its b.if-other-numbers.false))
    ]

pub returns-clause-others : goal.returns-clause-others
returns-clause-others c = filled_others c.args.numbers.now c.loop-e.numbers c.args.width c.args.i (least_of c.args.numbers.now c.args.width c.args.i c.args.j)
    (subst (λ n. Filled c.args.numbers.now c.loop-e.numbers (c.args.i * c.args.width) n (least_of c.args.numbers.now c.args.width c.args.i c.args.j)) (omega arith) c.loop-e.invariant)
