use Rattle.std.proofs.Common.{◌≡◌, ◌+◌, Bool, [], refl, ap, ◌∙◌, subst, arith}
use Rattle.std.specs.Prelude.{MatchBool}
use Rattle.device_drive.proofs.Advancing.{unmoved, joined, keeps_on}
use Rattle.device_drive.proofs.Calming.{calm, calm_on}
use Rattle.device_drive.proofs.Drawing.{none_left}
use Rattle.device_drive.proofs.Driving.{moves_on, moves_end}
use Rattle.device_drive.proofs.run.finish.Goals as goal
use Rattle.device_drive.specs.Internal.Keepers.{to_come}

pub loop-move-init : goal.loop-move-init
loop-move-init c = record { advanced = unmoved c.args.device.now c.args.keeper.now; calm = calm c.args.device.now; made = omega arith; all = refl }

pub tend-requires : goal.tend-requires
tend-requires c = record { keeps = keeps_on c.args.device.now c.loop-move.device c.args.keeper.now c.loop-move.keeper c.loop-move.invariant.advanced c.requires.keeps }

pub returns-then-not-tend-clause-advanced : goal.returns-then-not-tend-clause-advanced
returns-then-not-tend-clause-advanced c = joined c.args.device.now c.loop-move.device c.tend.new.device c.args.keeper.now c.loop-move.keeper c.tend.new.self c.loop-move.invariant.advanced c.tend.ensures.advanced

pub returns-then-not-tend-clause-calm : goal.returns-then-not-tend-clause-calm
returns-then-not-tend-clause-calm c = calm_on c.args.device.now c.loop-move.device c.tend.new.device c.loop-move.invariant.calm c.tend.ensures.calm

pub loop-move-preserved : goal.loop-move-preserved
loop-move-preserved c =
    let less : c.tend.new.device.moves + 1 ≡ c.loop-move.device.moves = subst (λ (b : Bool). MatchBool b (c.tend.new.device.moves + 1 ≡ c.loop-move.device.moves) (to_come c.tend.new.self c.tend.new.device.moves ≡ [])) c.if-not-tend.false c.tend.ensures.made in
    record {
      advanced = joined c.args.device.now c.loop-move.device c.tend.new.device c.args.keeper.now c.loop-move.keeper c.tend.new.self c.loop-move.invariant.advanced c.tend.ensures.advanced;
      calm = calm_on c.args.device.now c.loop-move.device c.tend.new.device c.loop-move.invariant.calm c.tend.ensures.calm;
      made = omega (arith, less, c.loop-move.invariant.made);
      all = moves_on c.args.device.now c.loop-move.device c.tend.new.device c.args.keeper.now c.loop-move.keeper c.tend.new.self c.loop-move.invariant.all c.tend.ensures.tends;
    }

pub returns-clause-none : goal.returns-clause-none
returns-clause-none c =
    let none : c.loop-move.device.moves ≡ 0 = omega (arith, c.loop-move.invariant.made) in
    ap (to_come c.loop-move.keeper) none ∙ none_left c.loop-move.keeper

pub returns-then-not-tend-clause-all : goal.returns-then-not-tend-clause-all
returns-then-not-tend-clause-all c =
    let none : to_come c.tend.new.self c.tend.new.device.moves ≡ [] = subst (λ (b : Bool). MatchBool b (c.tend.new.device.moves + 1 ≡ c.loop-move.device.moves) (to_come c.tend.new.self c.tend.new.device.moves ≡ [])) c.if-not-tend.true c.tend.ensures.made in
    moves_end c.args.device.now c.tend.new.device c.args.keeper.now c.tend.new.self
    (moves_on c.args.device.now c.loop-move.device c.tend.new.device c.args.keeper.now c.loop-move.keeper c.tend.new.self c.loop-move.invariant.all c.tend.ensures.tends)
    none

pub returns-clause-all : goal.returns-clause-all
returns-clause-all c =
    let none : c.loop-move.device.moves ≡ 0 = omega (arith, c.loop-move.invariant.made) in
    moves_end c.args.device.now c.loop-move.device c.args.keeper.now c.loop-move.keeper c.loop-move.invariant.all (ap (to_come c.loop-move.keeper) none ∙ none_left c.loop-move.keeper)
