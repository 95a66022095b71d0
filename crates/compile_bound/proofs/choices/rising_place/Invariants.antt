use Rattle.std.proofs.Common.{◌≡◌, ◌<◌, ℕ, get_or, nat_lt, false}
use Rattle.compile_bound.proofs.choices.rising_place.Given as goal

abbrev pub invariant-loop-place : goal.invariant-loop-place
invariant-loop-place l = (k : ℕ) → k < l.place → nat_lt l.s (get_or l.chosen k 0) ≡ false
