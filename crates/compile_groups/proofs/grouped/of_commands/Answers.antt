use Rattle.std.proofs.Common.{ap, sym, ◌∙◌, length, subst, arith}
use Rattle.frame.specs.Numbered.{numbered}
use Rattle.compile_groups.proofs.Assembled.{uses_are, buckets_are, units-known, operands-known, of_own, own_commands}
use Rattle.compile_groups.proofs.Tables.{by_unit}
use Rattle.compile_groups.proofs.grouped.of_commands.Goals as goal
use Rattle.compile_groups.specs.Internal.Known.{AreKnown}
use Rattle.compile_groups.specs.Groups.{all_uses}

pub uses_of-requires-clause-few : goal.uses_of-requires-clause-few
uses_of-requires-clause-few c =
    let e = ap length c.deref-2.ensures in
    let f = c.requires.few in
    omega (arith, e, f)

pub uses_of-requires-clause-shapes : goal.uses_of-requires-clause-shapes
uses_of-requires-clause-shapes c = operands-known (numbered c.args.frame.now) c.args.commands c.deref-2.result.now c.deref.result.now (c.deref.ensures ∙ c.in_ok-shapes.ensures) c.deref-2.ensures c.requires.operands

pub by_unit-requires : goal.by_unit-requires
by_unit-requires c = units-known (numbered c.args.frame.now) c.args.commands c.in_ok-uses.uses c.deref-3.result.now c.unit_count-units.result (uses_are (numbered c.args.frame.now) c.args.commands c.deref-2.result.now c.deref.result.now c.unit_count-units.result c.in_ok-uses.uses (c.deref.ensures ∙ c.in_ok-shapes.ensures) c.unit_count-units.ensures.count c.deref-2.ensures c.in_ok-uses.ensures) c.deref-3.ensures c.unit_count-units.ensures.count

pub grouping_of-requires-clause-by_unit : goal.grouping_of-requires-clause-by_unit
grouping_of-requires-clause-by_unit c = (buckets_are (numbered c.args.frame.now) c.args.commands c.in_ok-uses.uses c.deref-3.result.now c.unit_count-units.result c.in_ok-by_unit.by_unit (uses_are (numbered c.args.frame.now) c.args.commands c.deref-2.result.now c.deref.result.now c.unit_count-units.result c.in_ok-uses.uses (c.deref.ensures ∙ c.in_ok-shapes.ensures) c.unit_count-units.ensures.count c.deref-2.ensures c.in_ok-uses.ensures) c.deref-3.ensures c.unit_count-units.ensures.count c.in_ok-by_unit.ensures)

pub tabled-requires-clause-known : goal.tabled-requires-clause-known
tabled-requires-clause-known c = subst (AreKnown (numbered c.args.frame.now)) (sym (own_commands (numbered c.args.frame.now) c.args.commands c.in_ok-grouping.grouping c.in_ok-grouping.ensures)) c.requires

pub tabled-requires-clause-grouping : goal.tabled-requires-clause-grouping
tabled-requires-clause-grouping c = of_own (numbered c.args.frame.now) c.args.commands c.in_ok-grouping.grouping c.in_ok-grouping.ensures

pub tabled-requires-clause-uses : goal.tabled-requires-clause-uses
tabled-requires-clause-uses c = c.deref-4.ensures ∙ (uses_are (numbered c.args.frame.now) c.args.commands c.deref-2.result.now c.deref.result.now c.unit_count-units.result c.in_ok-uses.uses (c.deref.ensures ∙ c.in_ok-shapes.ensures) c.unit_count-units.ensures.count c.deref-2.ensures c.in_ok-uses.ensures) ∙ ap (all_uses (numbered c.args.frame.now)) (sym (own_commands (numbered c.args.frame.now) c.args.commands c.in_ok-grouping.grouping c.in_ok-grouping.ensures))

pub tabled-requires-clause-by_unit : goal.tabled-requires-clause-by_unit
tabled-requires-clause-by_unit c = (buckets_are (numbered c.args.frame.now) c.args.commands c.in_ok-uses.uses c.deref-3.result.now c.unit_count-units.result c.in_ok-by_unit.by_unit (uses_are (numbered c.args.frame.now) c.args.commands c.deref-2.result.now c.deref.result.now c.unit_count-units.result c.in_ok-uses.uses (c.deref.ensures ∙ c.in_ok-shapes.ensures) c.unit_count-units.ensures.count c.deref-2.ensures c.in_ok-uses.ensures) c.deref-3.ensures c.unit_count-units.ensures.count c.in_ok-by_unit.ensures) ∙ ap (by_unit (length (numbered c.args.frame.now).units)) (sym (c.deref-4.ensures ∙ (uses_are (numbered c.args.frame.now) c.args.commands c.deref-2.result.now c.deref.result.now c.unit_count-units.result c.in_ok-uses.uses (c.deref.ensures ∙ c.in_ok-shapes.ensures) c.unit_count-units.ensures.count c.deref-2.ensures c.in_ok-uses.ensures)))
