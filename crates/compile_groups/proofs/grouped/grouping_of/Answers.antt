use Rattle.std.proofs.Common.{ap, sym, ◌∙◌, length}
use Rattle.frame.specs.Numbered.{numbered}
use Rattle.compile_groups.proofs.Assembled.{assembled}
use Rattle.compile_groups.proofs.Tables.{by_unit-length}
use Rattle.compile_groups.proofs.grouped.grouping_of.Goals as goal
use Rattle.compile_groups.specs.Groups.{all_uses}

pub groups_of_units-requires : goal.groups_of_units-requires
groups_of_units-requires c = ap length c.requires.by_unit ∙ by_unit-length (length (numbered c.args.frame.now).units) (all_uses (numbered c.args.frame.now) c.args.commands) ∙ sym c.unit_count.ensures.count

pub returns : goal.returns
returns c =
    assembled (numbered c.args.frame.now) c.args.commands c.shapes.inside.items.items c.sharings-2.inside.items.items c.in_ok-imports.field-0 c.in_ok-families.families c.in_ok-groups.groups c.args.by_unit.now c.unit_count.result c.deref.result.now c.deref-2.result.now
    (c.shapes.view_is ∙ c.requires.shapes) (c.sharings-2.view_is ∙ c.in_ok-sharings.ensures) c.in_ok-imports.ensures c.in_ok-families.ensures c.deref.ensures (c.deref-2.ensures ∙ sym c.sharings-2.view_is) c.unit_count.ensures.count c.requires.by_unit c.in_ok-groups.ensures
