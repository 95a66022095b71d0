use Rattle.std.proofs.Common.{rules, ◌≡◌, ◌∙◌, ℕ, ◌+◌, ◌<◌, ◌≤◌, List, length, arith, sym, subst, ⊎_elim}
use Rattle.std.specs.Prelude.{nat_le, nat_lt}
use Rattle.std.proofs.lemmas.Bool.{cases_lt, and_right, le-ltb}
use Rattle.device_cache.specs.declared.segment.Segment.{Segment}
use Rattle.device_cache.specs.Places.{segment_at}
use Rattle.device_cache.specs.Internal.Segments.{changed_in}
use Rattle.device_cache.proofs.Changing.{changed_not}
use Rattle.device_cache.proofs.segment.change_in.Goals as goal

pub loop-k-preserved : goal.loop-k-preserved
loop-k-preserved c =
    let new = c.change_at.new.segments in
    let k = c.loop-k.k in
    let first = c.args.first in
    let g = c.args.agent in
    let change = c.args.change in
    let start = c.args.segments.now in
    let is = c.change_at.ensures.items in
    let Done : List Segment → Type 0 = λ segments. (j : ℕ) → j < k + 1 → j < length segments → segment_at segments j ≡ changed_in first (k + 1) g change j (segment_at start j) in
    let Ahead : List Segment → Type 0 = λ segments. (j : ℕ) → k + 1 ≤ j → segment_at segments j ≡ segment_at start j in
    record {
      counted = c.change_at.ensures.counted;
      done = subst Done (sym is) (search rules);
      ahead = subst Ahead (sym is) (search rules);
    }

pub returns-clause-each : goal.returns-clause-each
returns-clause-each c k lt =
    let end : c.loop-k.k ≡ c.args.last = omega arith in
    let P : ℕ → Type 0 = λ n. segment_at c.loop-k.segments k ≡ changed_in c.args.first n c.args.agent c.args.change k (segment_at c.args.segments.now k) in
    ⊎_elim
    (λ less. subst P end (c.loop-k.invariant.done k (omega (arith, less)) (omega (arith, lt))))
    (λ ge. c.loop-k.invariant.ahead k (omega (arith, ge)) ∙ sym (changed_not c.args.first c.args.last c.args.agent c.args.change k (segment_at c.args.segments.now k) (and_right (nat_le c.args.first k) (nat_lt k c.args.last) (le-ltb k c.args.last ge))))
    (cases_lt k c.args.last)
