-- Which steps may stand at their places.
use Rattle.std.specs.Prelude.{ℕ, ◌==◌, ◌&&◌, not, nat_lt, List, slice_get, Bool, true, false}
use Rattle.std.specs.Option.{option_map_or}
use Rattle.compile_timeline.specs.declared.step.Step.{Step}
use Rattle.compile_timeline.specs.declared.step.Step.TheVariants.{Item, Need}

abbrev pub is_other_item : ℕ → Step → Bool
is_other_item q (Item r item) = not (r == q)
is_other_item q (Need r step) = false

-- step j is an item of another queue than q
abbrev pub has_other_item : List Step → ℕ → ℕ → Bool
has_other_item script q j = option_map_or (is_other_item q) (slice_get script j) false

abbrev pub may_stand : List Step → ℕ → ℕ → Step → Bool
may_stand script count i (Item q item) = nat_lt q count
may_stand script count i (Need q step) = nat_lt q count && (nat_lt step i && has_other_item script q step)

-- step i is of one of so many queues, and if it is a need, for an earlier item of another one
abbrev pub is_fit : List Step → ℕ → ℕ → Bool
is_fit script count i = option_map_or (may_stand script count i) (slice_get script i) true
