-- What is noted of each step.
use Rattle.std.specs.Prelude.{◌≡◌, ℕ, ◌<◌, List, length, map, get_or, Bool}
use Rattle.std.specs.List.{range_with_len}
use Rattle.compile_timeline.specs.Below.{count_below}
use Rattle.compile_timeline.specs.Signals.{has_signal, value_at}
use Rattle.compile_timeline.specs.Steps.{queue_at}
use Rattle.compile_timeline.specs.Waits.{last_item}
use Rattle.compile_timeline.specs.declared.signals.Signals.{Signals}
use Rattle.compile_timeline.specs.declared.step.Step.{Step}

abbrev pub signalled_below : List Step → ℕ → ℕ → List Bool
signalled_below script count i = map (λ k. has_signal script count (queue_at script k) k) (range_with_len 0 i)

abbrev pub values_below : List Step → ℕ → ℕ → List ℕ
values_below script count i = map (value_at script count) (range_with_len 0 i)

abbrev pub signals_of : List Step → ℕ → Signals
signals_of script count = record { signalled = signalled_below script count (length script); values = values_below script count (length script) }

-- the last item of each queue among the first i steps
pub record HasLasts (script : List Step) (count i : ℕ) (lasts : List ℕ) : Type 0 where
  pub size : length lasts ≡ count
  pub is : (q : ℕ) → q < count → get_or lasts q 0 ≡ last_item script q i

-- how many signals each queue has after the first i steps
pub record HasCounts (script : List Step) (count i : ℕ) (counts : List ℕ) : Type 0 where
  pub size : length counts ≡ count
  pub is : (q : ℕ) → q < count → get_or counts q 0 ≡ count_below (has_signal script count q) i
