use Rattle.law_sound.proofs.Changing.{changed}
use Rattle.law_sound.proofs.Compiled.{set_by}
use Rattle.law_sound.proofs.bytes.bytes_law.Goals as goal
use Rattle.compile_groups.specs.Groups.{grouping}
use Rattle.compile_record.specs.Recorded.{heap_with, recorded}

pub returns-clause-changed : goal.returns-clause-changed
returns-clause-changed c = λ frame kept ordered places good is_ordered least initialized.
    changed (grouping frame kept) (heap_with ordered places) (recorded frame kept ordered places) (set_by frame kept ordered places good c.group_laws.ensures.grouped c.group_laws.ensures.known c.script_laws.ensures.in_turn c.script_laws.ensures.standing c.cut_laws.ensures.stand c.cut_laws.ensures.all c.cut_laws.ensures.sooner c.timeline_laws.ensures.ends c.timeline_laws.ensures.families)
    initialized (c.aliases_law.ensures.imports frame kept ordered places good is_ordered least)

pub returns-clause-sound : goal.returns-clause-sound
returns-clause-sound c = λ frame kept ordered places good is_ordered least initialized.
    c.sound_law.ensures frame kept ordered places good is_ordered least (record {
      spots = c.accesses_law.ensures.spots frame kept ordered places good is_ordered least;
      masks = c.accesses_law.ensures.masks frame kept ordered places good is_ordered least;
      aliases = c.accesses_law.ensures.aliases frame kept ordered places good is_ordered least;
      laid = c.states_law.ensures.laid frame kept ordered places good is_ordered least;
      owned = c.states_law.ensures.owned frame kept ordered places good is_ordered least;
      handed = c.states_law.ensures.handed frame kept ordered places good is_ordered least;
      changed = returns-clause-changed c frame kept ordered places good is_ordered least initialized;
    })
