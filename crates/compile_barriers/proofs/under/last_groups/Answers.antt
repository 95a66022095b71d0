use Rattle.std.proofs.Common.{◌<◌, ◌∙◌, length, ap, sym, subst, arith, []}
use Rattle.compile_groups.specs.Uses.{no_use}
use Rattle.compile_barriers.proofs.Members.{some_use, lasts_more}
use Rattle.compile_barriers.specs.Prologues.{first}
use Rattle.compile_barriers.proofs.under.last_groups.Goals as goal

pub loop-g-preserved : goal.loop-g-preserved
loop-g-preserved c =
    let G = c.args.groups.now in
    let test = c.loop-g-test.true in
    let count = c.group_count-g-end.ensures.count in
    let lt : c.loop-g.g < length c.args.groups.now.groups = omega (arith, test, count) in
    let here = c.unit_of-unit.ensures ∙ ap (λ A. (first A).unit) c.members.ensures.members in
    let known = (c.members.ensures.known.members c.loop-g.g [] lt 0 no_use (some_use G c.loop-g.g c.members.ensures.grouped lt)).0 in
    lasts_more G c.loop-g.g c.unit_of-unit.result c.loop-g.lasts c.set.new.self c.members.ensures.grouped lt c.loop-g.invariant here (subst (λ u. u < length c.args.groups.now.imports) (sym here) known) c.set.ensures
