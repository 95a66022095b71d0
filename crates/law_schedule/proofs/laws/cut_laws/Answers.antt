use Rattle.std.proofs.Common.{List, length, ap, ◌∙◌}
use Rattle.base.specs.declared.shape.Family.{Family}
use Rattle.law_schedule.proofs.Crossing.{are_sooner, are_crossed}
use Rattle.law_schedule.proofs.Full.{is_full}
use Rattle.law_schedule.proofs.Leveled.{are_steps, leveled}
use Rattle.law_schedule.proofs.Opens.{are_open}
use Rattle.law_schedule.proofs.Ordering.{by_step}
use Rattle.law_schedule.proofs.Standing.{all_stand, are_these, reads_are_last}
use Rattle.law_schedule.proofs.laws.cut_laws.Goals as goal
use Rattle.law_plan.specs.Levels.{by_level}
use Rattle.law_schedule.specs.Laws.{IsLeveled}
use Rattle.law_schedule.specs.Levels.{level_of}
use Rattle.law_schedule.specs.Standing.{IsCut}
use Rattle.check_order.specs.Nodes.{program_nodes}
use Rattle.program.specs.declared.program.Program.{Program}
use Rattle.compile_timeline.specs.Laws.{AreParts, AreOfFamilies, AreNumbered, AllThere, InOrder, AreFor, AreRising}
use Rattle.compile_timeline.specs.Steps.{IsScript}
use Rattle.compile_timeline.specs.declared.step.Step.{Step}

pub returns-clause-stand : goal.returns-clause-stand
returns-clause-stand c = λ program script families cut. all_stand program script (length families) (c.timeline_laws.ensures.parts script families program cut) (c.timeline_laws.ensures.there script (length families))

pub returns-clause-all : goal.returns-clause-all
returns-clause-all c = λ program script families cut. are_these program script (length families) (c.timeline_laws.ensures.parts script families program cut) (c.timeline_laws.ensures.numbered script (length families))

pub returns-clause-reads : goal.returns-clause-reads
returns-clause-reads c = λ program script families cut. reads_are_last program script (length families) (c.timeline_laws.ensures.parts script families program cut)

pub returns-clause-full : goal.returns-clause-full
returns-clause-full c = λ program script families cut.
    let E = c.timeline_laws.ensures.parts script families program cut in
    is_full program script (length families) (all_stand program script (length families) E (c.timeline_laws.ensures.there script (length families))) (are_these program script (length families) E (c.timeline_laws.ensures.numbered script (length families)))

pub returns-clause-opens : goal.returns-clause-opens
returns-clause-opens c = are_open

pub returns-clause-sooner : goal.returns-clause-sooner
returns-clause-sooner c = λ program script families cut K.
    let E = c.timeline_laws.ensures.parts script families program cut in
    let there = c.timeline_laws.ensures.there script (length families) in
    are_sooner program script (length families) (all_stand program script (length families) E there) (are_these program script (length families) E (c.timeline_laws.ensures.numbered script (length families))) there (c.timeline_laws.ensures.order script (length families)) K

pub returns-clause-crossed : goal.returns-clause-crossed
returns-clause-crossed c = λ program script families cut K.
    let E = c.timeline_laws.ensures.parts script families program cut in
    let there = c.timeline_laws.ensures.there script (length families) in
    are_crossed program script (length families) (all_stand program script (length families) E there) (are_these program script (length families) E (c.timeline_laws.ensures.numbered script (length families))) there (c.timeline_laws.ensures.order script (length families)) K
    (c.timeline_laws.ensures.values script (length families))
    (c.timeline_laws.ensures.waits script (length families) K)
    (c.timeline_laws.ensures.met script)

pub returns-clause-steps : goal.returns-clause-steps
returns-clause-steps c = λ script count. are_steps script count (c.timeline_laws.ensures.there script count)

-- no edge goes back by steps, from the facts of the queues
cut_leveled : (program : Program) (script : List Step) (families : List Family) → IsCut program script families → IsScript script (length families) → AreParts script families → AreOfFamilies script families → AreNumbered script (length families) → AllThere script (length families) → InOrder script (length families) → AreFor script (length families) → AreRising script (length families) → IsLeveled program script (length families)
cut_leveled program script families cut K parts each numbered there order waits values = leveled program script (length families) (parts program cut) (ap length cut ∙ each.count) numbered there order K waits values

pub returns-clause-leveled : goal.returns-clause-leveled
returns-clause-leveled c = λ program script families cut K.
    let laws = c.timeline_laws.ensures in
    cut_leveled program script families cut K (laws.parts script families) (laws.families script families) (laws.numbered script (length families)) (laws.there script (length families)) (laws.order script (length families)) (laws.waits script (length families) K) (laws.values script (length families))

pub returns-clause-order : goal.returns-clause-order
returns-clause-order c = λ program script families cut K.
    let laws = c.timeline_laws.ensures in
    let is_leveled = cut_leveled program script families cut K (laws.parts script families) (laws.families script families) (laws.numbered script (length families)) (laws.there script (length families)) (laws.order script (length families)) (laws.waits script (length families) K) (laws.values script (length families)) in
    by_step program script (length families) (all_stand program script (length families) (laws.parts script families program cut) (laws.there script (length families))) (are_steps script (length families) (laws.there script (length families))) K is_leveled
    (c.leveled_laws.ensures.order (program_nodes program) (level_of script (length families)))
    (c.leveled_laws.ensures.lower_first (level_of script (length families)) (length (program_nodes program)))

pub returns-clause-least : goal.returns-clause-least
returns-clause-least c = λ program script families cut K.
    let level = level_of script (length families) in
    let is_leveled = returns-clause-leveled c program script families cut K in
    c.leveled_laws.ensures.least (program_nodes program) (by_level level (length (program_nodes program))) (c.leveled_laws.ensures.order (program_nodes program) level is_leveled)

pub returns-clause-never_stuck : goal.returns-clause-never_stuck
returns-clause-never_stuck c = λ program script families cut K.
    let laws = c.timeline_laws.ensures in
    c.leveled_laws.ensures.never_stuck (program_nodes program) (level_of script (length families))
    (cut_leveled program script families cut K (laws.parts script families) (laws.families script families) (laws.numbered script (length families)) (laws.there script (length families)) (laws.order script (length families)) (laws.waits script (length families) K) (laws.values script (length families)))
