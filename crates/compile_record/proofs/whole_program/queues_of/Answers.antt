use Rattle.std.proofs.Common.{◌∙◌, List, length, sym, ap, ap₂, subst, refl, arith}
use Rattle.base.specs.declared.shape.Family.{Family}
use Rattle.compile_record.proofs.whole_program.queues_of.Goals as goal
use Rattle.compile_timeline.specs.Batches.{queues}
use Rattle.compile_timeline.specs.Steps.{IsScript}
use Rattle.compile_timeline.specs.declared.step.Step.{Step}

pub steps-requires : goal.steps-requires
steps-requires c = (refl, (c.requires.families, (c.requires.ordered, (c.requires.placement, c.requires.resources))))

pub batches-requires-clause-few : goal.batches-requires-clause-few
batches-requires-clause-few c = omega (arith, ap length c.families-families.ensures, c.requires.families)

pub batches-requires-clause-script : goal.batches-requires-clause-script
batches-requires-clause-script c =
    subst (λ (l : List Step). IsScript l (length c.families-families.result.now)) (sym c.as_slice.ensures)
    (subst (λ (l : List Family). IsScript c.in_ok-steps.steps (length l)) (sym c.families-families.ensures) c.in_ok-steps.ensures.script)

pub returns : goal.returns
returns c = c.in_ok-queues.ensures ∙ ap₂ queues (c.as_slice.ensures ∙ c.in_ok-steps.ensures.steps) c.families-families.ensures
