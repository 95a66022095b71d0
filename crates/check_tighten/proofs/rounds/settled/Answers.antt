use Rattle.std.proofs.Common.{◌≡◌, true, false}
use Rattle.std.proofs.lemmas.Bool.{not-true}
use Rattle.base.proofs.Absence.{not_false}
use Rattle.check_tighten.proofs.Turning.{round_more, round_last}
use Rattle.check_tighten.proofs.Walks.{tight_as}
use Rattle.check_tighten.proofs.rounds.settled.Goals as goal

pub loop-next-init : goal.loop-next-init
loop-next-init c = record { passes = c.requires; stands = λ given s. s; comes = λ tight t. t }

pub loop-next-preserved : goal.loop-next-preserved
loop-next-preserved c = record {
  passes = c.in_ok-next.ensures.came.passes c.loop-next.invariant.passes;
  stands = λ given s. c.in_ok-next.ensures.came.stands given (c.loop-next.invariant.stands given s);
  comes = λ tight t.
      let changed : c.in_ok-next.next.changed ≡ true = first_of (assumption c.if-not-next.false, search (not_false, c.if-not-next.false)) in
      c.loop-next.invariant.comes tight (round_more c.loop-next.now c.in_ok-next.next.program tight c.in_ok-next.ensures.turn (c.in_ok-next.ensures.came.lighter changed) t);
}

pub loop-next-smaller : goal.loop-next-smaller
loop-next-smaller c =
    let changed : c.in_ok-next.next.changed ≡ true = first_of (assumption c.if-not-next.false, search (not_false, c.if-not-next.false)) in
    c.in_ok-next.ensures.came.lighter changed

pub returns-then-not-next-clause-tight : goal.returns-then-not-next-clause-tight
returns-then-not-next-clause-tight c =
    let same : c.in_ok-next.next.changed ≡ false = first_of (assumption c.if-not-next.true, search (not-true, c.if-not-next.true)) in
    tight_as c.loop-next.now c.in_ok-next.next.program (c.in_ok-next.ensures.came.same same) c.loop-next.invariant.passes (c.in_ok-next.ensures.done same)

pub returns-then-not-next-clause-stands : goal.returns-then-not-next-clause-stands
returns-then-not-next-clause-stands c = λ given s. c.in_ok-next.ensures.came.stands given (c.loop-next.invariant.stands given s)

pub returns-then-not-next-clause-tightened : goal.returns-then-not-next-clause-tightened
returns-then-not-next-clause-tightened c =
    let same : c.in_ok-next.next.changed ≡ false = first_of (assumption c.if-not-next.true, search (not-true, c.if-not-next.true)) in
    c.loop-next.invariant.comes c.in_ok-next.next.program (round_last c.loop-next.now c.in_ok-next.next.program c.in_ok-next.ensures.turn (c.in_ok-next.ensures.came.same same))
