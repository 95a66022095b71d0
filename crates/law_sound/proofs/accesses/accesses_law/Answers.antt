use Rattle.law_sound.proofs.AliasSource.{takes_alias}
use Rattle.law_sound.proofs.Compiled.{set_by}
use Rattle.law_sound.proofs.Masked.{masked}
use Rattle.law_sound.proofs.SpotFacts.{spots}
use Rattle.law_sound.proofs.accesses.accesses_law.Goals as goal
use Rattle.compile_groups.specs.Groups.{grouping}
use Rattle.compile_record.specs.Recorded.{heap_with, recorded}

pub returns-clause-spots : goal.returns-clause-spots
returns-clause-spots c = λ frame kept ordered places good is_ordered least.
    spots (grouping frame kept) (heap_with ordered places) (recorded frame kept ordered places) (set_by frame kept ordered places good c.group_laws.ensures.grouped c.group_laws.ensures.known c.script_laws.ensures.in_turn c.script_laws.ensures.standing c.cut_laws.ensures.stand c.cut_laws.ensures.all c.cut_laws.ensures.sooner c.timeline_laws.ensures.ends c.timeline_laws.ensures.families)

pub returns-clause-masks : goal.returns-clause-masks
returns-clause-masks c = λ frame kept ordered places good is_ordered least.
    masked (grouping frame kept) (heap_with ordered places) (recorded frame kept ordered places) (set_by frame kept ordered places good c.group_laws.ensures.grouped c.group_laws.ensures.known c.script_laws.ensures.in_turn c.script_laws.ensures.standing c.cut_laws.ensures.stand c.cut_laws.ensures.all c.cut_laws.ensures.sooner c.timeline_laws.ensures.ends c.timeline_laws.ensures.families)

pub returns-clause-aliases : goal.returns-clause-aliases
returns-clause-aliases c = λ frame kept ordered places good is_ordered least.
    takes_alias (grouping frame kept) (heap_with ordered places) (recorded frame kept ordered places) (set_by frame kept ordered places good c.group_laws.ensures.grouped c.group_laws.ensures.known c.script_laws.ensures.in_turn c.script_laws.ensures.standing c.cut_laws.ensures.stand c.cut_laws.ensures.all c.cut_laws.ensures.sooner c.timeline_laws.ensures.ends c.timeline_laws.ensures.families)
