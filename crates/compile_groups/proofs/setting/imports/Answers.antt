use Rattle.std.proofs.Common.{arith}
use Rattle.std.specs.Prelude.{is_some}
use Rattle.std.proofs.lemmas.List.{length-map}
use Rattle.frame.specs.Numbered.{numbered}
use Rattle.compile_groups.proofs.Lists.{took, took_all}
use Rattle.compile_groups.proofs.Settings.{import_got}
use Rattle.compile_groups.proofs.setting.imports.Goals as goal
use Rattle.compile_groups.specs.Groups.{imports_in}

pub loop-unit-preserved : goal.loop-unit-preserved
loop-unit-preserved c =
    let count = c.unit_count-unit-end.ensures.count in
    let below = c.loop-unit-test.true in
    took (imports_in (numbered c.args.frame.now)) c.loop-unit.imports c.push.new.self c.loop-unit.unit c.is_import.result c.loop-unit.invariant (import_got (numbered c.args.frame.now).units c.loop-unit.unit c.is_import.result (omega (arith, count, below)) c.is_import.ensures) c.in_ok-push.ensures.ok

pub returns : goal.returns
returns c =
    let count = c.unit_count-unit-end.ensures.count in
    let end = c.loop-unit-test.false in
    took_all (imports_in (numbered c.args.frame.now)) c.loop-unit.imports c.loop-unit.unit (omega (arith, count, end, length-map (numbered c.args.frame.now).units (λ u. is_some u.imported))) c.loop-unit.invariant
