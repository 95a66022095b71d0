use Rattle.compile_groups.specs.Groups.{grouping}
use Rattle.compile_record.proofs.Laid.{standing}
use Rattle.compile_record.proofs.Lengths.{few_steps}
use Rattle.compile_record.proofs.Scripted.{is_script}
use Rattle.compile_record.proofs.laws.script_laws.Goals as goal

pub returns-clause-in_turn : goal.returns-clause-in_turn
returns-clause-in_turn c = λ frame kept heap good. is_script (grouping frame kept) heap (c.group_laws.ensures.grouped frame kept) (c.group_laws.ensures.known frame kept good)

pub returns-clause-standing : goal.returns-clause-standing
returns-clause-standing c = λ frame kept heap. standing (grouping frame kept) heap (c.group_laws.ensures.grouped frame kept)

pub returns-clause-few : goal.returns-clause-few
returns-clause-few c = λ frame kept heap good. few_steps (grouping frame kept) heap good.few_queues (c.group_laws.ensures.small frame kept good).few_commands
