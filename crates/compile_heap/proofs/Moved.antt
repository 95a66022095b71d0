-- A resource is moved past one more.
use Rattle.std.proofs.Common.{◌≡◌, ℕ, ◌+◌, ◌%◌, ◌<◌, ◌≤◌, List, length, get_or, Bool, true, false, sym, ap, ◌∙◌, arith, ⊎_elim}
use Rattle.std.proofs.lemmas.Bool.{cases_lt}
use Rattle.std.proofs.lemmas.List.{get_or_default}
use Rattle.compile_heap.specs.Placing.{collides, granule}
use Rattle.compile_heap.specs.Internal.Moving.{IsPast, IsTaken}

module _ (sizes : List ℕ) (ordered : ℕ → ℕ → Bool) (offsets placed : List ℕ) (i k : ℕ) (lt : k < length placed) where
  pub taken_more : (old new : ℕ) → IsTaken sizes ordered offsets placed i old → ((lower : ℕ) → old ≤ lower → lower < new → lower % granule ≡ 0 → collides sizes ordered offsets i lower (get_or placed k 0) ≡ true) → IsTaken sizes ordered offsets placed i new
  taken_more old new taken met = λ lower less aligned clear. ⊎_elim
      (λ l. taken lower l aligned clear)
      (λ g. absurd (clash (sym (met lower g less aligned) ∙ clear k 0 lt)))
      (cases_lt lower old)
    where
      clash : true ≡ false → ⊥
      clash e = cc

  pub past_more : (old new : ℕ) → IsPast sizes ordered offsets placed k i old → old ≤ new → ((later : ℕ) → new ≤ later → collides sizes ordered offsets i later (get_or placed k 0) ≡ false) → IsPast sizes ordered offsets placed (k + 1) i new
  past_more old new past up here = λ later le m d less. ⊎_elim
      (λ l. past later (omega arith) m d l)
      (λ g. let e : m ≡ k = omega (arith, g, less) in ap (λ j. collides sizes ordered offsets i later j) (ap (λ x. get_or placed x d) e ∙ get_or_default placed k d 0 lt) ∙ here later le)
      (cases_lt m k)
