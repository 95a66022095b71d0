use Rattle.std.proofs.Common.{arith}
use Rattle.std.proofs.lemmas.List.{length-map}
use Rattle.frame.specs.Numbered.{numbered}
use Rattle.compile_groups.proofs.Lists.{took, took_all}
use Rattle.compile_groups.proofs.setting.sharings.Goals as goal
use Rattle.compile_groups.specs.Groups.{sharings_in}

pub loop-unit-preserved : goal.loop-unit-preserved
loop-unit-preserved c = took (sharings_in (numbered c.args.frame.now)) c.loop-unit.sharings c.push.new.self c.loop-unit.unit c.sharing.result c.loop-unit.invariant c.sharing.ensures c.in_ok-push.ensures.ok

pub returns : goal.returns
returns c =
    let count = c.unit_count-unit-end.ensures.count in
    let end = c.loop-unit-test.false in
    took_all (sharings_in (numbered c.args.frame.now)) c.loop-unit.sharings c.loop-unit.unit (omega (arith, count, end, length-map (numbered c.args.frame.now).units (λ u. u.sharing))) c.loop-unit.invariant
