use Rattle.std.proofs.Common.{◌≡◌, ℕ, List, length, ◌+◌, sym, ◌∙◌, subst}
use Rattle.base_first.specs.Internal.Rows.{Given}
use Rattle.base_first.proofs.Moves.{given_more, given_keep}
use Rattle.base_first.proofs.rows.give_row.Goals as goal
use Rattle.base_first.proofs.rows.give_row.Goals.{then-has, else-has}

record At (set c width base i : ℕ) (old new : List ℕ) : Type 0 where
  pub size : length new ≡ length old
  pub given : Given set c width base i old new

pub loop-c-preserved : goal.loop-c-preserved
loop-c-preserved c =
    let s = c.args.set in
    let ys = c.args.numbers.now in
    let xs = c.loop-c.numbers in
    let n = c.loop-c.c in
    let r : At s (n + 1) c.args.width c.args.base c.args.i ys c.if-has.numbers = elim c.if-has.branch [
      | then-has w ↦ subst (λ l. At s (n + 1) c.args.width c.args.base c.args.i ys l) (sym w.numbers-is) (record {
        size = w.take_row.ensures.length ∙ c.loop-c.invariant.size;
        given = given_more s n c.args.width c.args.base c.args.i ys xs w.take_row.new.numbers c.requires.i c.loop-c.invariant.given (sym c.has.ensures ∙ w.if-has.true) w.take_row.ensures.taken w.take_row.ensures.others;
      })
      | else-has w ↦ subst (λ l. At s (n + 1) c.args.width c.args.base c.args.i ys l) (sym w.numbers-is) (record {
        size = c.loop-c.invariant.size;
        given = given_keep s n c.args.width c.args.base c.args.i ys xs c.requires.i c.loop-c.invariant.given (sym c.has.ensures ∙ w.if-has.false);
      })
    ] in
    record { size = r.size; given = r.given }
