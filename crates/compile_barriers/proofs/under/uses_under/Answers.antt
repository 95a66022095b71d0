use Rattle.std.proofs.Common.{◌<◌, ◌∙◌, ◌++◌, length, get_or, ap, sym, subst, arith}
use Rattle.compile_groups.specs.Placed.{placed, unit_at}
use Rattle.compile_barriers.proofs.Members.{placed_known, more_passes, more_fails}
use Rattle.compile_barriers.specs.Under.{heap_of, is_under, last_uses}
use Rattle.compile_barriers.proofs.under.uses_under.Goals as goal
use Rattle.compile_barriers.proofs.under.uses_under.Goals.{then-is_under+in_ok-extend_from_slice, else-is_under}

pub last_uses-requires-clause-unit : goal.last_uses-requires-clause-unit
last_uses-requires-clause-unit c =
    let test = c.loop-a-test.true in
    let count = c.count-a-end.ensures in
    let size = c.requires.ordered in
    let lt : c.loop-a.a < length (placed c.args.groups.now) = omega (arith, test, count, size) in
    subst (λ l. get_or l c.loop-a.a 0 < length c.args.groups.now.imports) (sym c.placed.ensures) (placed_known c.args.groups.now c.loop-a.a 0 lt)

pub loop-a-preserved : goal.loop-a-preserved
loop-a-preserved c =
    elim c.if-is_under.branch [
      | then-is_under+in_ok-extend_from_slice w ↦
          more_passes (λ a. last_uses c.args.groups.now (unit_at c.args.groups.now a)) (is_under c.args.groups.now (heap_of c.args.ordered.now c.args.placement.now) c.args.b) c.loop-a.a c.loop-a.uses c.if-is_under.uses
          (sym c.is_under.ensures ∙ w.if-is_under.true) c.loop-a.invariant
          (w.uses-is ∙ w.in_ok-extend_from_slice.ensures.ok ∙ ap (λ l. c.loop-a.uses ++ l) (w.last_uses.ensures ∙ ap (λ l. last_uses c.args.groups.now (get_or l c.loop-a.a 0)) w.placed.ensures))
      | else-is_under w ↦
          w.uses-is ∙ more_fails (λ a. last_uses c.args.groups.now (unit_at c.args.groups.now a)) (is_under c.args.groups.now (heap_of c.args.ordered.now c.args.placement.now) c.args.b) c.loop-a.a c.loop-a.uses (sym c.is_under.ensures ∙ w.if-is_under.false) c.loop-a.invariant
    ]
