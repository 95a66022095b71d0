use Rattle.std.proofs.Common.{◌≡◌, ◌-◌, ◌+◌, ◌++◌, subst, refl, arith, rules}
use Rattle.base_reach.proofs.Upward.{Upto, none_closed, closed_more, rest_rows, rest_ahead, all_ahead}
use Rattle.base_reach.proofs.close.close_all.Goals as goal

upto : (c : goal.After-close_first-arg-in-loop-i-1) → Upto c.args.words.now (c.split_at_mut-below.result.0.now ++ c.split_at_mut-below.result.1.now) c.args.width c.args.count (c.args.count - 1 - c.loop-i.i + 1)
upto c =
    let e : c.args.count - c.loop-i.i ≡ c.args.count - 1 - c.loop-i.i + 1 = omega arith in
    subst (λ n. Upto c.args.words.now (c.split_at_mut-below.result.0.now ++ c.split_at_mut-below.result.1.now) c.args.width c.args.count n) e
    (subst (λ l. Upto c.args.words.now l c.args.width c.args.count (c.args.count - c.loop-i.i)) c.split_at_mut-below.ensures.value c.loop-i.invariant.closed)

pub loop-i-init : goal.loop-i-init
loop-i-init c = record { size = refl; scratch = c.requires.scratch; closed = subst (λ n. Upto c.args.words.now c.args.words.now c.args.width c.args.count n) (omega arith) (none_closed c.args.words.now c.args.width c.args.count c.requires.count c.requires.size) }

pub close_first-requires-clause-rest : goal.close_first-requires-clause-rest
close_first-requires-clause-rest c = rest_rows c.args.words.now c.split_at_mut-below.result.0.now c.split_at_mut-below.result.1.now c.args.width c.args.count (c.args.count - 1 - c.loop-i.i) c.split_at_mut-below.ensures.front_len (upto c)

pub close_first-requires-clause-forward : goal.close_first-requires-clause-forward
close_first-requires-clause-forward c y lt h = rest_ahead c.args.words.now c.split_at_mut-below.result.0.now c.split_at_mut-below.result.1.now c.args.width c.args.count (c.args.count - 1 - c.loop-i.i) y c.split_at_mut-below.ensures.front_len (omega arith) c.requires.ahead (upto c) lt h

pub loop-i-preserved : goal.loop-i-preserved
loop-i-preserved c =
    let e : c.args.count - c.loop-i.i ≡ c.args.count - 1 - c.loop-i.i + 1 = omega arith in
    let f : c.args.count - 1 - c.loop-i.i ≡ c.args.count - (c.loop-i.i + 1) = omega arith in
    let U : Upto c.args.words.now (c.split_at_mut-below.result.0.now ++ c.split_at_mut-below.result.1.now) c.args.width c.args.count (c.args.count - 1 - c.loop-i.i + 1) =
    subst (λ n. Upto c.args.words.now (c.split_at_mut-below.result.0.now ++ c.split_at_mut-below.result.1.now) c.args.width c.args.count n) e
    (subst (λ l. Upto c.args.words.now l c.args.width c.args.count (c.args.count - c.loop-i.i)) c.split_at_mut-below.ensures.value c.loop-i.invariant.closed) in
    record {
      size = search rules;
      scratch = c.close_first.ensures.scratch;
      closed = subst (λ n. Upto c.args.words.now (c.split_at_mut-below.result.0.now ++ c.close_first.new.rows) c.args.width c.args.count n) f
          (closed_more c.args.words.now c.split_at_mut-below.result.0.now c.split_at_mut-below.result.1.now c.close_first.new.rows c.args.width c.args.count (c.args.count - 1 - c.loop-i.i) (omega arith) c.requires.count c.split_at_mut-below.ensures.front_len c.requires.ahead U c.close_first.ensures.closed);
    }

pub returns-clause-ahead : goal.returns-clause-ahead
returns-clause-ahead c = all_ahead c.args.words.now c.loop-i.words c.args.width c.args.count (subst (λ n. Upto c.args.words.now c.loop-i.words c.args.width c.args.count n) (omega arith) c.loop-i.invariant.closed)

pub returns-clause-paths : goal.returns-clause-paths
returns-clause-paths c x y lx ly = c.loop-i.invariant.closed.paths x y (omega arith) lx (omega (arith, ly, c.requires.count))
