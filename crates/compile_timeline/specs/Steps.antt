-- Lists of steps, over all queues in the order of recording. A step is named by its place in the list.
use Rattle.std.specs.Prelude.{◌≡◌, ◌≢◌, ℕ, ◌<◌, ◌==◌, List, slice_get, Bool, true, false, Some}
use Rattle.std.specs.Option.{option_map_or}
use Rattle.compile_timeline.specs.declared.step.Step.{Step}
use Rattle.compile_timeline.specs.declared.step.Step.TheVariants.{Item, Need}

abbrev pub queue_of : Step → ℕ
queue_of (Item q item) = q
queue_of (Need q step) = q

abbrev pub queue_at : List Step → ℕ → ℕ
queue_at script i = option_map_or queue_of (slice_get script i) 0

abbrev pub is_item : ℕ → Step → Bool
is_item q (Item r item) = r == q
is_item q (Need r step) = false

-- step i is an item of queue q
abbrev pub has_item : List Step → ℕ → ℕ → Bool
has_item script q i = option_map_or (is_item q) (slice_get script i) false

-- steps are of so many queues, and each need is for an earlier item of another queue
pub record IsScript (script : List Step) (count : ℕ) : Type 0 where
  pub items : (i q : ℕ) → has_item script q i ≡ true → q < count
  pub needs : (i q j : ℕ) → slice_get script i ≡ Some (Need q j) → q < count
  pub earlier : (i q j : ℕ) → slice_get script i ≡ Some (Need q j) → j < i
  pub needed : (i q j : ℕ) → slice_get script i ≡ Some (Need q j) → has_item script (queue_at script j) j ≡ true
  pub other : (i q j : ℕ) → slice_get script i ≡ Some (Need q j) → queue_at script j ≢ q
