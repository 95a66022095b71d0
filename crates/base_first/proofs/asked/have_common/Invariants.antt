use Rattle.std.proofs.Common.{◌≡◌, true, ℕ, ◌<◌}
use Rattle.base_first.specs.Bits.{bit}
use Rattle.base_first.proofs.asked.have_common.Given as goal

abbrev pub invariant-loop-c : goal.invariant-loop-c
invariant-loop-c l = (d : ℕ) → d < l.c → bit l.fn.outs d ≡ true → bit l.fn.ins d ≡ true → ⊥
