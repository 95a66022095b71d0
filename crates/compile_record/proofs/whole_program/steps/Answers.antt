use Rattle.std.proofs.Common.{◌∙◌, ◌<◌, ◌^◌, List, length, sym, ap, subst}
use Rattle.compile_record.proofs.Compiling.{steps_are}
use Rattle.compile_record.proofs.Lengths.{few_steps}
use Rattle.compile_record.proofs.Scripted.{is_script}
use Rattle.compile_record.proofs.whole_program.steps.Goals as goal
use Rattle.compile_record.specs.Marks.{steps_of}
use Rattle.compile_record.specs.declared.mark.Marked.{Marked}
use Rattle.compile_timeline.specs.Steps.{IsScript}
use Rattle.compile_timeline.specs.declared.step.Step.{Step}
use Rattle.compile_barriers.specs.Prologues.{prologues}

pub script-requires : goal.script-requires
script-requires g c = (c.as_slice.ensures ∙ c.in_ok-prologues.ensures ∙ ap (prologues c.args.groups.now) (sym c.requires.0), c.requires.1.1.1.1)

pub steps_of-requires : goal.steps_of-requires
steps_of-requires g c = subst (λ (l : List Marked). length l < 2 ^ 32) (sym c.in_ok-script.ensures.script) (few_steps c.args.groups.now g.heap c.requires.1.0 c.script.ensures.small.few_commands)

pub returns-clause-steps : goal.returns-clause-steps
returns-clause-steps g c = steps_are c.args.groups.now g.heap c.in_ok-steps.steps (c.in_ok-steps.ensures ∙ ap steps_of c.in_ok-script.ensures.script)

pub returns-clause-script : goal.returns-clause-script
returns-clause-script g c = subst (λ (l : List Step). IsScript l (length c.args.groups.now.families)) (sym (c.in_ok-steps.ensures ∙ ap steps_of c.in_ok-script.ensures.script)) (is_script c.args.groups.now g.heap c.script.ensures.grouped c.script.ensures.known)
