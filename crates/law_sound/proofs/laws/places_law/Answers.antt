use Rattle.std.proofs.Common.{refl}
use Rattle.law_sound.proofs.Exports.{are_copied}
use Rattle.law_sound.proofs.Grouped.{grouped}
use Rattle.law_sound.proofs.Opened.{have_roles}
use Rattle.law_sound.proofs.Places.{are_placed}
use Rattle.law_sound.proofs.laws.places_law.Goals as goal
use Rattle.law_sound.specs.Nodes.{steps}
use Rattle.compile_groups.specs.Groups.{grouping}
use Rattle.compile_record.specs.Recorded.{heap_with, recorded}

pub returns-clause-grouped : goal.returns-clause-grouped
returns-clause-grouped c = λ frame kept ordered places good is_ordered least.
    grouped (grouping frame kept) (c.group_laws.ensures.grouped frame kept) (c.group_laws.ensures.known frame kept good) (heap_with ordered places)

pub returns-clause-roles : goal.returns-clause-roles
returns-clause-roles c = λ frame kept ordered places good is_ordered least.
    let G = grouping frame kept in
    let heap = heap_with ordered places in
    let program = recorded frame kept ordered places in
    have_roles G (c.group_laws.ensures.grouped frame kept) heap (c.script_laws.ensures.standing frame kept heap) program
    (c.cut_laws.ensures.stand program (steps G heap) G.families refl) (c.cut_laws.ensures.opens program) (c.script_laws.ensures.in_turn frame kept heap good)
    (are_copied frame kept) refl

pub returns-clause-placed : goal.returns-clause-placed
returns-clause-placed c = λ frame kept ordered places good is_ordered least.
    let G = grouping frame kept in
    let heap = heap_with ordered places in
    let program = recorded frame kept ordered places in
    let K = c.script_laws.ensures.in_turn frame kept heap good in
    are_placed G (c.group_laws.ensures.grouped frame kept) heap (c.script_laws.ensures.standing frame kept heap) program
    (c.cut_laws.ensures.sooner program (steps G heap) G.families refl K)
    (c.cut_laws.ensures.crossed program (steps G heap) G.families refl K)
    (c.group_laws.ensures.known frame kept good) (are_copied frame kept)
