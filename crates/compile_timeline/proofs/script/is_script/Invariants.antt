use Rattle.std.proofs.Common.{◌≡◌, ◌<◌, ℕ, length, true}
use Rattle.compile_timeline.specs.Internal.Scripts.{is_fit}
use Rattle.compile_timeline.proofs.script.is_script.Given as goal

abbrev pub invariant-loop-at : goal.invariant-loop-at
invariant-loop-at l = (i : ℕ) → i < l.at → is_fit l.script (length l.families) i ≡ true
