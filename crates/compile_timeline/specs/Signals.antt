-- Which items are followed by a signal, and of which value.
use Rattle.std.specs.Prelude.{ℕ, suc, ◌==◌, ◌&&◌, ◌||◌, List, length, Bool}
use Rattle.compile_timeline.specs.Below.{any_below, count_below}
use Rattle.compile_timeline.specs.Steps.{queue_at, has_item}
use Rattle.compile_timeline.specs.Waits.{last_item, waits_for}
use Rattle.compile_timeline.specs.declared.step.Step.{Step}

-- before an item of queue q, below place i, stands a wait for step j
abbrev pub awaited_by : List Step → ℕ → ℕ → ℕ → ℕ → Bool
awaited_by script count j q i = any_below (λ k. has_item script q k && any_below (waits_for script j q k) count) i

-- a wait is for step j
abbrev pub is_awaited : List Step → ℕ → ℕ → Bool
is_awaited script count j = any_below (λ q. awaited_by script count j q (length script)) count

-- its queue ends with step j
abbrev pub is_last : List Step → ℕ → Bool
is_last script j = last_item script (queue_at script j) (length script) == suc j

-- after the item of queue q at place j stands a signal
abbrev pub has_signal : List Step → ℕ → ℕ → ℕ → Bool
has_signal script count q j = has_item script q j && (is_awaited script count j || is_last script j)

-- how many signals of its queue stand up to the one after step j: its value
abbrev pub value_at : List Step → ℕ → ℕ → ℕ
value_at script count j = count_below (has_signal script count (queue_at script j)) (suc j)
