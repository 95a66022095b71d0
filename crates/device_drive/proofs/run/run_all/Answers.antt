use Rattle.std.proofs.Common.{◌<◌, ℕ, Option, sym, subst, arith}
use Rattle.std.specs.Prelude.{IfNone}
use Rattle.check_program.specs.Sound.{IsSound}
use Rattle.device_drive.proofs.Queues.{all_done}
use Rattle.device_drive.proofs.Advancing.{unmoved, joined, keeps_on}
use Rattle.device_drive.proofs.Driving.{leads_on, leads_end}
use Rattle.device_drive.specs.Driven.{after_moves}
use Rattle.device_drive.specs.Internal.Keepers.{to_come}
use Rattle.device_drive.proofs.run.run_all.Goals as goal
use Rattle.device_drive.specs.Firsts.{NothingReady}
use Rattle.device_model.specs.Rounds.{to_do}

pub loop-node-init : goal.loop-node-init
loop-node-init g c = record { advanced = unmoved c.args.device.now c.args.keeper.now; idle = c.requires.idle; leads = λ new l. l }

pub run_node-requires-clause-keeps : goal.run_node-requires-clause-keeps
run_node-requires-clause-keeps g c κs within = keeps_on c.args.device.now c.loop-node.device c.args.keeper.now c.loop-node.keeper c.loop-node.invariant.advanced c.requires.keeps

pub loop-node-smaller : goal.loop-node-smaller
loop-node-smaller g c = let less : to_do c.run_node.new.device < to_do c.loop-node.device = omega (arith, c.in_ok-run_node.ensures.round.less) in less

pub loop-node-preserved : goal.loop-node-preserved
loop-node-preserved g c = record {
  advanced = joined c.args.device.now c.loop-node.device c.run_node.new.device c.args.keeper.now c.loop-node.keeper c.run_node.new.keeper c.loop-node.invariant.advanced c.run_node.ensures.advanced;
  idle = c.in_ok-run_node.ensures.round.idle;
  leads = λ new more. c.loop-node.invariant.leads new (leads_on c.loop-node.device c.run_node.new.device new c.loop-node.keeper c.run_node.new.keeper c.in-Some.node c.in-Some.ensures.some c.in_ok-run_node.ensures.does more);
}

pub returns-in_err-run_node-clause-advanced : goal.returns-in_err-run_node-clause-advanced
returns-in_err-run_node-clause-advanced g c = joined c.args.device.now c.loop-node.device c.run_node.new.device c.args.keeper.now c.loop-node.keeper c.run_node.new.keeper c.loop-node.invariant.advanced c.run_node.ensures.advanced

pub returns-clause-complete : goal.returns-clause-complete
returns-clause-complete g c =
    let d = c.loop-node.device in
    let quiet : NothingReady d = subst (λ (found : Option ℕ). IfNone found (NothingReady d)) c.in_default.is c.next_node.ensures.none in
    all_done d c.next_node.ensures.stands (subst IsSound (sym c.loop-node.invariant.advanced.went.program) c.requires.sound) c.loop-node.invariant.idle quiet

pub returns-clause-leads : goal.returns-clause-leads
returns-clause-leads g c =
    let d = c.loop-node.device in
    let quiet : NothingReady d = subst (λ (found : Option ℕ). IfNone found (NothingReady d)) c.in_default.is c.next_node.ensures.none in
    c.loop-node.invariant.leads (after_moves d (to_come c.loop-node.keeper d.moves)) (leads_end d c.loop-node.keeper quiet)
