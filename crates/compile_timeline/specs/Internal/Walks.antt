-- What one queue needs, while the steps are walked.
use Rattle.std.specs.Prelude.{◌≡◌, ℕ, suc, ◌<◌, ◌≤◌, ◌-◌, ◌==◌, ◌&&◌, nat_lt, List, length, get_or, Bool, Option, Some, None, if◌then◌else◌}
use Rattle.compile_timeline.specs.Steps.{IsScript}
use Rattle.compile_timeline.specs.Waits.{latest, last_item}
use Rattle.compile_timeline.specs.declared.needs.Needs.{Needs}
use Rattle.compile_timeline.specs.declared.step.Step.{Step}

abbrev pub is_new : Needs → ℕ → Bool
is_new needs p = nat_lt (get_or needs.stood p 0) (get_or needs.latest p 0)

-- the latest step, where it is new
abbrev pub fresh : Needs → ℕ → Option ℕ
fresh needs p = if is_new needs p then Some (get_or needs.latest p 0 - 1) else None

-- that step is j
abbrev pub is_for : Needs → ℕ → ℕ → Bool
is_for needs j p = is_new needs p && (get_or needs.latest p 0 == suc j)

-- the steps below place i were walked for queue q
pub record Knows (script : List Step) (q i : ℕ) (needs : Needs) : Type 0 where
  pub steps : IsScript script (length needs.latest)
  pub size : length needs.stood ≡ length needs.latest
  pub needed : (p : ℕ) → p < length needs.latest → get_or needs.latest p 0 ≡ latest script q p i
  pub settled : (p : ℕ) → p < length needs.latest → get_or needs.stood p 0 ≡ latest script q p (last_item script q i)

-- the steps that are needed are among the first so many
pub record NeedsBelow (n : ℕ) (needs : Needs) : Type 0 where
  pub size : length needs.stood ≡ length needs.latest
  pub below : (p : ℕ) → p < length needs.latest → get_or needs.latest p 0 ≤ n
