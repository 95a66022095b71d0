use Rattle.std.proofs.Common.{ℕ, ◌+◌, ◌*◌, subst, arith}
use Rattle.base_first.proofs.Moves.{Filled, put_of, filled_put}
use Rattle.base_first.proofs.rows.put.Goals as goal

pub returns-clause-put : goal.returns-clause-put
returns-clause-put c =
    let start : ℕ = c.args.i * c.args.width + c.args.first in
    filled_put c.args.numbers.now c.loop-c.numbers c.args.width c.args.i c.args.first c.args.places c.args.set c.args.number c.requires.first
    (subst (λ n. Filled c.args.numbers.now c.loop-c.numbers start n (put_of c.args.numbers.now start c.args.set c.args.number)) (omega arith) c.loop-c.invariant)
