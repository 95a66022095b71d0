use Rattle.std.proofs.Common.{◌≡◌, ◌-◌, suc, sym, subst, arith}
use Rattle.device_drive.proofs.Driving.{tends_move}
use Rattle.device_drive.proofs.Ranges.{of_program, calm_move}
use Rattle.device_drive.proofs.keeper.Keeper.tend.Goals as goal
use Rattle.device_drive.specs.Internal.Keepers.{Calm}
use Rattle.device_model.specs.Devices.{Device}

pub returns-clause-calm : goal.returns-clause-calm
returns-clause-calm c =
    let d = c.args.device.now in
    subst (λ (x : Device). Calm d x) (sym c.make_move.ensures) (calm_move d c.in-Some.cache_move (of_program c.args.self.now d.program c.in-Some.cache_move c.requires.keeps c.in-Some.ensures.inside))

pub returns-clause-tends : goal.returns-clause-tends
returns-clause-tends c =
    let d = c.args.device.now in
    let some : d.moves ≡ suc (d.moves - 1) = omega (arith, c.if-moves_left-eq0.false, c.moves_left.ensures) in
    tends_move d c.make_move.new.device c.args.self.now c.next.new.self c.in-Some.cache_move some (c.in-Some.ensures.some (d.moves - 1)) c.make_move.ensures
