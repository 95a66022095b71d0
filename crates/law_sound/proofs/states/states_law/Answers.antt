use Rattle.law_sound.proofs.Compiled.{set_by}
use Rattle.law_sound.proofs.HandedOn.{handed}
use Rattle.law_sound.proofs.LaidBy.{laid}
use Rattle.law_sound.proofs.OwnedBy.{owned}
use Rattle.law_sound.proofs.states.states_law.Goals as goal
use Rattle.compile_groups.specs.Groups.{grouping}
use Rattle.compile_record.specs.Recorded.{heap_with, recorded}

pub returns-clause-laid : goal.returns-clause-laid
returns-clause-laid c = λ frame kept ordered places good is_ordered least.
    laid (grouping frame kept) (heap_with ordered places) (recorded frame kept ordered places) (set_by frame kept ordered places good c.group_laws.ensures.grouped c.group_laws.ensures.known c.script_laws.ensures.in_turn c.script_laws.ensures.standing c.cut_laws.ensures.stand c.cut_laws.ensures.all c.cut_laws.ensures.sooner c.timeline_laws.ensures.ends c.timeline_laws.ensures.families)

pub returns-clause-owned : goal.returns-clause-owned
returns-clause-owned c = λ frame kept ordered places good is_ordered least.
    owned (grouping frame kept) (heap_with ordered places) (recorded frame kept ordered places) (set_by frame kept ordered places good c.group_laws.ensures.grouped c.group_laws.ensures.known c.script_laws.ensures.in_turn c.script_laws.ensures.standing c.cut_laws.ensures.stand c.cut_laws.ensures.all c.cut_laws.ensures.sooner c.timeline_laws.ensures.ends c.timeline_laws.ensures.families)

pub returns-clause-handed : goal.returns-clause-handed
returns-clause-handed c = λ frame kept ordered places good is_ordered least.
    handed (grouping frame kept) (heap_with ordered places) (recorded frame kept ordered places) (set_by frame kept ordered places good c.group_laws.ensures.grouped c.group_laws.ensures.known c.script_laws.ensures.in_turn c.script_laws.ensures.standing c.cut_laws.ensures.stand c.cut_laws.ensures.all c.cut_laws.ensures.sooner c.timeline_laws.ensures.ends c.timeline_laws.ensures.families)
