use Rattle.std.proofs.Common.{◌≡◌, ◌<◌, Some, slice_get, length, sym, subst}
use Rattle.frame.proofs.Small.{spot_got}
use Rattle.frame.specs.Units.{units, unit_spots}
use Rattle.frame.proofs.valid.ValidFrame.unit_name.Goals as goal

pub returns : goal.returns
returns c = subst (λ f. slice_get (unit_spots f) c.args.unit ≡ Some c.index.result.now) c.self.view_is (spot_got c.self.inside.frame c.self.inside.resolved c.args.unit c.index.result.now c.self.invariant.1 (subst (λ f. c.args.unit < length (units f)) (sym c.self.view_is) c.requires) c.index.ensures)
