-- How many cache moves a seed gives.
use Rattle.std.proofs.Common.{ℕ, zero, suc, ◌≤◌, List, [], ◌∷◌, length, Bool, true, false, Option, Some, None, if◌then◌else◌, sym, subst, arith}
use Rattle.rand_pcg.specs.Lcg.{Lcg}
use Rattle.device_audit.specs.Again.{TendedAreRead}
use Rattle.device_audit.proofs.Histories.{histories_are_read}
use Rattle.base.specs.declared.event.Event.{Event}
use Rattle.base.specs.declared.event.Event.TheVariants.{Move}
use Rattle.device_cache.specs.Draws.{seeded, after_five, may_draw, drawn, moves_from}
use Rattle.device_drive.specs.Tended.{agents_of, sizes_of, tended_moves}
use Rattle.program.specs.declared.program.Program.{Program}

either_few : (b : Bool) (event : Event) (count : ℕ) (events : List Event) → length events ≤ count → length (if b then event ∷ events else []) ≤ suc count
either_few true event count events few = omega (arith, few)
either_few false event count events few = omega arith

few_from : (g : Lcg) (count agents : ℕ) (sizes : List ℕ) → length (moves_from g count agents sizes) ≤ count
few_from g zero agents sizes = omega arith
few_from g (suc count) agents sizes = either_few (may_draw agents sizes) (Move (drawn agents sizes g)) count (moves_from (after_five g) count agents sizes) (few_from (after_five g) count agents sizes)

few_tended : (program : Program) (tend : Option ℕ) (count : ℕ) → length (tended_moves program tend count) ≤ count
few_tended program None count = omega arith
few_tended program (Some seed) count = few_from (seeded seed) count (agents_of program) (sizes_of program)

pub tended_are_read : TendedAreRead
tended_are_read d tend faultless came moves = histories_are_read d faultless came (subst (λ (events : List Event). length events ≤ 256) (sym moves) (few_tended d.program tend 256))
