use Rattle.std.proofs.Common.{◌≡◌, ◌∙◌, ◌<◌, ◌+◌, max, set, Some, length, get_or, eq-eqb, refl, sym, ap, subst}
use Rattle.std.specs.Prelude.{slice_get}
use Rattle.std.proofs.lemmas.Bool.{ne_eqb}
use Rattle.compile_timeline.proofs.Walks.{step_there, need_queue, over_need, over_item, over_other}
use Rattle.compile_timeline.specs.Steps.{queue_of, queue_at}
use Rattle.compile_timeline.specs.declared.step.Step.TheVariants.{Item, Need}
use Rattle.compile_timeline.proofs.needs.Needs.pass.Goals as goal
use Rattle.compile_timeline.proofs.needs.Needs.pass.Goals.{After-queue}

need : (c : After-queue) → slice_get c.args.script.now c.args.at ≡ Some (Need c.args.queue c.in-Need.step)
need c = step_there c.args.script.now c.args.at c.index-script-at.result (Need c.args.queue c.in-Need.step) c.requires.at c.index-script-at.is (c.in-Need.is ∙ ap (λ q. Need q c.in-Need.step) c.if-own-queue.true)

needed : (c : After-queue) → (queue_of c.index-script-step.result ≡ queue_at c.args.script.now c.in-Need.step) × (queue_of c.index-script-step.result < length c.args.self.now.latest)
needed c = need_queue c.args.script.now c.args.queue c.args.at c.in-Need.step c.args.self.now c.index-script-step.result c.requires.knows (need c) c.index-script-step.is

pub raise-requires : goal.raise-requires
raise-requires c = subst (λ q. q < length c.args.self.now.latest) (sym c.queue.ensures) (needed c).1

pub returns-then-own-queue-clause-knows : goal.returns-then-own-queue-clause-knows
returns-then-own-queue-clause-knows c =
    let at = (goal.at.returns-then-own-queue-clause-knows c).After-queue in
    over_need c.args.script.now c.args.queue c.args.at c.in-Need.step c.args.self.now c.raise.new.self c.requires.knows (need at)
    (c.raise.ensures.latest ∙ ap (λ q. set c.args.self.now.latest q (max (c.in-Need.step + 1) (get_or c.args.self.now.latest q 0))) (c.queue.ensures ∙ (needed at).0))
    c.raise.ensures.stood

pub returns-else-own-queue-clause-knows : goal.returns-else-own-queue-clause-knows
returns-else-own-queue-clause-knows c =
    over_other c.args.script.now c.args.queue c.args.at (Need c.in-Need.own c.in-Need.step) c.args.self.now c.args.self.now c.requires.knows
    (step_there c.args.script.now c.args.at c.index-script-at.result (Need c.in-Need.own c.in-Need.step) c.requires.at c.index-script-at.is c.in-Need.is)
    refl c.if-own-queue.false refl

pub returns-then-own-queue-2-clause-knows : goal.returns-then-own-queue-2-clause-knows
returns-then-own-queue-2-clause-knows c =
    over_item c.args.script.now c.args.queue c.args.at (Item c.in-Item.own c.in-Item.item) c.args.self.now c.settle.new.self c.requires.knows
    (step_there c.args.script.now c.args.at c.index-script-at.result (Item c.in-Item.own c.in-Item.item) c.requires.at c.index-script-at.is c.in-Item.is)
    (eq-eqb c.in-Item.own c.args.queue c.if-own-queue-2.true)
    c.settle.ensures.latest c.settle.ensures.size c.settle.ensures.stood

pub returns-else-own-queue-2-clause-knows : goal.returns-else-own-queue-2-clause-knows
returns-else-own-queue-2-clause-knows c =
    over_other c.args.script.now c.args.queue c.args.at (Item c.in-Item.own c.in-Item.item) c.args.self.now c.args.self.now c.requires.knows
    (step_there c.args.script.now c.args.at c.index-script-at.result (Item c.in-Item.own c.in-Item.item) c.requires.at c.index-script-at.is c.in-Item.is)
    (ne_eqb c.in-Item.own c.args.queue c.if-own-queue-2.false) (λ h. h) refl
