-- What a trial comes to.
use Rattle.std.proofs.Common.{◌≡◌, ◌<◌, ℕ, suc, Bool, true, false, slice_get, slice_set, Some, refl, subst, sym, arith}
use Rattle.base.proofs.Booleans.{both, clash}
use Rattle.vk.specs.Sets.{has}
use Rattle.vk.specs.Stages.{expand}
use Rattle.program.specs.declared.program.Batch.{Batch}
use Rattle.program.specs.declared.program.Program.{Program}
use Rattle.program.specs.declared.program.Queue.{Queue}
use Rattle.program.specs.declared.program.WaitFor.{WaitFor}
use Rattle.check_tighten.specs.Internal.Rounds.{Tried, Came}
use Rattle.check_tighten.specs.Internal.Weights.{mask_weight, wait_weight, weight}
use Rattle.check_tighten.specs.Edits.{program_with, without_at}
use Rattle.check_tighten.specs.Own.{single_stages, own_stages, fitted, with_stages, without_stage}
use Rattle.check_tighten.specs.Standing.{StandsTo}
use Rattle.check_tighten.specs.Tight.{Passes, WaitAt}
use Rattle.check_tighten.proofs.Masks.{fitted_inside, without_inside, fitted_lighter, without_lighter}
use Rattle.check_tighten.proofs.Stands.{narrower, stand_without, stand_set, stands_with}
use Rattle.check_tighten.proofs.Weights.{total_set, total_without, lighter}

-- nothing was changed
pub came_same : (program : Program) → Came program program false
came_same program = record { passes = λ p. p; same = λ e. refl; lighter = λ e. absurd (clash e); stands = λ given s. s }

-- a lighter candidate that stands wherever the program does
pub came_of : (program candidate now : Program) (changed : Bool) → weight candidate < weight program → ((given : Program) → StandsTo given program → StandsTo given candidate) → Tried program candidate now changed → Came program now changed
came_of program candidate now true less stands tried =
    let proved_sound = tried.proved_sound refl in
    record {
      passes = λ p. subst Passes (sym proved_sound.0) proved_sound.1;
      same = λ e. absurd (clash (sym e));
      lighter = λ e. subst (λ n. weight n < weight program) (sym proved_sound.0) less;
      stands = λ given s. subst (StandsTo given) (sym proved_sound.0) (stands given s);
    }
came_of program candidate now false less stands tried =
    let same = (tried.refused refl).0 in
    record {
      passes = λ p. subst Passes (sym same) p;
      same = λ e. same;
      lighter = λ e. absurd (clash e);
      stands = λ given s. subst (StandsTo given) (sym same) s;
    }

one_at_least : (n : ℕ) → 0 < suc n
one_at_least n = omega arith

one_more : (a b : ℕ) → a < b → suc a < suc b
one_more a b lt = omega (arith, lt)

module _ (program : Program) (q b k : ℕ) (queue : Queue) (batch : Batch) (wait : WaitFor) (at : WaitAt program q b k queue batch wait) (now : Program) (changed : Bool) where
  -- without the wait
  pub came_without : Tried program (program_with q b (without_at k batch.waits) program) now changed → Came program now changed
  came_without tried =
      came_of program (program_with q b (without_at k batch.waits) program) now changed
      (lighter program q b queue batch (without_at k batch.waits) at.batch_at (total_without (wait_weight queue.family) batch.waits k wait at.wait_is (λ y. one_at_least (mask_weight queue.family y.stages.0))))
      (λ given. stands_with given program q b queue batch (without_at k batch.waits) at.batch_at (λ old. stand_without old k batch.waits))
      tried

  -- with other stages of it, which weigh less
  came_with : (set : ℕ) → (has (expand wait.stages.0) set ≡ true) × (has (expand wait.stages.0) (expand set) ≡ true) → mask_weight queue.family set < mask_weight queue.family wait.stages.0 → Tried program (program_with q b (slice_set batch.waits k (with_stages set wait)) program) now changed → Came program now changed
  came_with set some less tried =
      came_of program (program_with q b (slice_set batch.waits k (with_stages set wait)) program) now changed
      (lighter program q b queue batch (slice_set batch.waits k (with_stages set wait)) at.batch_at (total_set (wait_weight queue.family) (with_stages set wait) batch.waits k wait at.wait_is (one_more (mask_weight queue.family set) (mask_weight queue.family wait.stages.0) less)))
      (λ given. stands_with given program q b queue batch (slice_set batch.waits k (with_stages set wait)) at.batch_at (λ old. stand_set old k batch.waits wait (with_stages set wait) at.wait_is (λ first. narrower first wait set some.0 some.1)))
      tried

  pub came_stage : (i stage : ℕ) → slice_get single_stages i ≡ Some stage → has (own_stages queue.family wait.stages.0) stage ≡ true → Tried program (program_with q b (slice_set batch.waits k (without_stage queue.family stage wait)) program) now changed → Came program now changed
  came_stage i stage one is tried =
      let set = (without_stage queue.family stage wait).stages.0 in
      came_with set (both (has (expand wait.stages.0) set) (has (expand wait.stages.0) (expand set)) (without_inside queue.family wait.stages.0 i stage one)) (without_lighter queue.family wait.stages.0 i stage one is) tried

  pub came_fitted : (wait.stages.0 ≡ own_stages queue.family wait.stages.0 → ⊥) → Tried program (program_with q b (slice_set batch.waits k (fitted queue.family wait)) program) now changed → Came program now changed
  came_fitted other tried =
      let set = own_stages queue.family wait.stages.0 in
      came_with set (both (has (expand wait.stages.0) set) (has (expand wait.stages.0) (expand set)) (fitted_inside queue.family wait.stages.0)) (fitted_lighter queue.family wait.stages.0 other) tried

-- the program was handed on
pub came_unchanged : (program to : Program) (changed : Bool) → to ≡ program → changed ≡ false → Came program to changed
came_unchanged program to changed same not =
    subst (λ p. Came program p changed) (sym same) (subst (Came program program) (sym not) (came_same program))
