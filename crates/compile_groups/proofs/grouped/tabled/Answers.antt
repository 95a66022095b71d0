use Rattle.std.proofs.Common.{ap, ap₂, sym, subst, ◌∙◌, ◌<◌, length, map, arith}
use Rattle.std.specs.List.{All}
use Rattle.base.specs.Shapes.{shape_at, bytes_of}
use Rattle.frame.specs.Numbered.{numbered}
use Rattle.compile_groups.proofs.Tables.{by_unit, by_unit-length, by_command-length}
use Rattle.compile_groups.proofs.Tabled.{count-few, imports-length, places, places-within, places-small, groups-within, uses-within, looked, known-within, known-small, tabled}
use Rattle.compile_groups.proofs.grouped.tabled.Goals as goal
use Rattle.compile_groups.specs.Internal.Buckets.{none_in, put_numbers}

pub overflow_cast-count : goal.overflow_cast-count
overflow_cast-count c =
    let e = c.len-count.ensures in
    let f = count-few (numbered c.args.frame.now) c.args.grouping c.requires.grouping c.requires.known in
    omega (arith, e, f)

pub placed-requires-clause-imports : goal.placed-requires-clause-imports
placed-requires-clause-imports c = ap length c.deref.ensures ∙ imports-length (numbered c.args.frame.now) c.args.grouping c.requires.grouping c.requires.known ∙ sym c.unit_count.ensures.count

pub placed-requires-clause-uses : goal.placed-requires-clause-uses
placed-requires-clause-uses c = ap length c.requires.by_unit ∙ by_unit-length (length (numbered c.args.frame.now).units) c.args.uses.now ∙ sym c.unit_count.ensures.count

pub sizes-requires-clause-within : goal.sizes-requires-clause-within
sizes-requires-clause-within c = places-within (numbered c.args.frame.now) c.args.grouping c.requires.grouping c.requires.known c.deref-3.result.now (length c.deref-2.result.now) c.unit_count.ensures.good (c.deref-3.ensures ∙ (places (numbered c.args.frame.now) c.args.grouping c.requires.grouping c.requires.known c.unit_count.result c.deref.result.now c.args.by_unit.now c.in_ok-placed.placed c.unit_count.ensures.count c.deref.ensures (c.requires.by_unit ∙ ap (by_unit (length (numbered c.args.frame.now).units)) c.requires.uses) c.in_ok-placed.ensures)) (ap length c.deref-2.ensures)

pub sizes-requires-clause-small : goal.sizes-requires-clause-small
sizes-requires-clause-small c = places-small (numbered c.args.frame.now) c.args.grouping c.requires.grouping c.requires.known c.deref-3.result.now c.deref-2.result.now c.unit_count.ensures.good (c.deref-3.ensures ∙ (places (numbered c.args.frame.now) c.args.grouping c.requires.grouping c.requires.known c.unit_count.result c.deref.result.now c.args.by_unit.now c.in_ok-placed.placed c.unit_count.ensures.count c.deref.ensures (c.requires.by_unit ∙ ap (by_unit (length (numbered c.args.frame.now).units)) c.requires.uses) c.in_ok-placed.ensures)) c.deref-2.ensures

pub by_command-requires-clause-few : goal.by_command-requires-clause-few
by_command-requires-clause-few c =
    let e = ap length c.deref-4.ensures in
    let f = count-few (numbered c.args.frame.now) c.args.grouping c.requires.grouping c.requires.known in
    omega (arith, e, f)

pub by_command-requires-clause-within : goal.by_command-requires-clause-within
by_command-requires-clause-within c = subst (All (λ A. All (λ u. u.command < c.len-commands.result) A)) (sym c.deref-4.ensures) (groups-within (numbered c.args.frame.now) c.args.grouping c.requires.grouping c.requires.known c.len-commands.result c.len-commands.ensures)

pub looked_up-requires : goal.looked_up-requires
looked_up-requires c =
    subst (λ m. All (λ u. u.command < m) c.args.uses.now) (sym (ap length c.in_ok-by_command.ensures ∙ by_command-length c.len-commands.result c.deref-4.result.now))
    (subst (All (λ u. u.command < c.len-commands.result)) (sym c.requires.uses) (uses-within (numbered c.args.frame.now) c.args.grouping c.requires.grouping c.requires.known c.len-commands.result c.len-commands.ensures))

pub by_group-requires-clause-few : goal.by_group-requires-clause-few
by_group-requires-clause-few c = known-small (numbered c.args.frame.now) c.args.grouping c.requires.grouping c.requires.known c.deref-5.result.now (c.deref-5.ensures ∙ (looked (numbered c.args.frame.now) c.args.grouping c.requires.grouping c.requires.known c.len-count.result c.len-commands.result c.deref-4.result.now c.in_ok-by_command.by_command c.args.uses.now c.in_ok-uses.uses c.len-count.ensures c.len-commands.ensures c.deref-4.ensures c.in_ok-by_command.ensures c.requires.uses c.in_ok-uses.ensures))

pub by_group-requires-clause-within : goal.by_group-requires-clause-within
by_group-requires-clause-within c = known-within (numbered c.args.frame.now) c.args.grouping c.requires.grouping c.requires.known c.len-count.result c.deref-5.result.now c.len-count.ensures (c.deref-5.ensures ∙ (looked (numbered c.args.frame.now) c.args.grouping c.requires.grouping c.requires.known c.len-count.result c.len-commands.result c.deref-4.result.now c.in_ok-by_command.by_command c.args.uses.now c.in_ok-uses.uses c.len-count.ensures c.len-commands.ensures c.deref-4.ensures c.in_ok-by_command.ensures c.requires.uses c.in_ok-uses.ensures))

pub new-requires : goal.new-requires
new-requires c =
    tabled (numbered c.args.frame.now) c.args.grouping c.requires.grouping c.requires.known c.len-count.result c.in_ok-uses.uses c.in_ok-by_group.by_group c.in_ok-placed.placed c.in_ok-sizes.sizes c.unit_count.ensures.good c.len-count.ensures (looked (numbered c.args.frame.now) c.args.grouping c.requires.grouping c.requires.known c.len-count.result c.len-commands.result c.deref-4.result.now c.in_ok-by_command.by_command c.args.uses.now c.in_ok-uses.uses c.len-count.ensures c.len-commands.ensures c.deref-4.ensures c.in_ok-by_command.ensures c.requires.uses c.in_ok-uses.ensures) (c.in_ok-by_group.ensures ∙ ap (λ l. put_numbers 0 l (none_in c.len-count.result)) c.deref-5.ensures) (places (numbered c.args.frame.now) c.args.grouping c.requires.grouping c.requires.known c.unit_count.result c.deref.result.now c.args.by_unit.now c.in_ok-placed.placed c.unit_count.ensures.count c.deref.ensures (c.requires.by_unit ∙ ap (by_unit (length (numbered c.args.frame.now).units)) c.requires.uses) c.in_ok-placed.ensures)
    (c.in_ok-sizes.ensures ∙ ap₂ (λ x y. map (λ unit. bytes_of (shape_at x unit)) y) c.deref-2.ensures c.deref-3.ensures)
