use Rattle.std.proofs.Common.{refl}
use Rattle.law_sound.proofs.Aliased.{alias_barrier, alias_onto, are_kept, are_ordered}
use Rattle.law_sound.proofs.Early.{is_early}
use Rattle.law_sound.proofs.Imports.{import_alone}
use Rattle.law_sound.proofs.Into.{into_alias}
use Rattle.law_sound.proofs.laws.aliases_law.Goals as goal
use Rattle.law_sound.specs.Nodes.{nodes_of, steps}
use Rattle.law_sound.specs.Plan.{plan_of}
use Rattle.compile_groups.specs.Groups.{grouping}
use Rattle.compile_record.specs.Recorded.{heap_with, recorded}
use Rattle.check_access.specs.Views.{view_of}

pub returns-clause-ordered : goal.returns-clause-ordered
returns-clause-ordered c = λ frame kept ordered places good is_ordered least.
    are_ordered (grouping frame kept) (c.group_laws.ensures.grouped frame kept) (c.group_laws.ensures.known frame kept good) ordered places least

pub returns-clause-barriers : goal.returns-clause-barriers
returns-clause-barriers c = λ frame kept ordered places good is_ordered least g h over.
    let G = grouping frame kept in
    let heap = heap_with ordered places in
    let program = recorded frame kept ordered places in
    let L = c.group_laws.ensures.grouped frame kept in
    let S = c.script_laws.ensures.standing frame kept heap in
    let K = c.script_laws.ensures.in_turn frame kept heap good in
    let T = c.cut_laws.ensures.stand program (steps G heap) G.families refl in
    let opens = c.cut_laws.ensures.opens program in (
      alias_barrier G L heap S program T opens K g h over,
      alias_onto G L heap S program T opens K (c.cut_laws.ensures.sooner program (steps G heap) G.families refl K) (c.cut_laws.ensures.crossed program (steps G heap) G.families refl K) g h over,
    )

pub returns-clause-before : goal.returns-clause-before
returns-clause-before c = λ frame kept ordered places good is_ordered least g h d over member.
    let G = grouping frame kept in
    let heap = heap_with ordered places in
    let program = recorded frame kept ordered places in
    let L = c.group_laws.ensures.grouped frame kept in
    let S = c.script_laws.ensures.standing frame kept heap in
    let K = c.script_laws.ensures.in_turn frame kept heap good in
    let full = c.cut_laws.ensures.full program (steps G heap) G.families refl in
    into_alias G L (c.group_laws.ensures.known frame kept good) heap S (is_early G heap S L) program
    (c.cut_laws.ensures.sooner program (steps G heap) G.families refl K) (c.cut_laws.ensures.crossed program (steps G heap) G.families refl K) full g h over
    (c.crossing_laws.ensures.crosses (plan_of G heap) (view_of program) (nodes_of G heap) full (c.places_law.ensures.placed frame kept ordered places good is_ordered least))
    is_ordered d member

pub returns-clause-kept : goal.returns-clause-kept
returns-clause-kept c = λ frame kept ordered places good is_ordered least g h over. are_kept (grouping frame kept) (heap_with ordered places) g h over

pub returns-clause-imports : goal.returns-clause-imports
returns-clause-imports c = λ frame kept ordered places good is_ordered least g p.
    import_alone (grouping frame kept) (c.group_laws.ensures.grouped frame kept) (c.group_laws.ensures.known frame kept good) frame places g p
