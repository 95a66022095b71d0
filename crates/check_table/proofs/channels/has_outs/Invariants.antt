use Rattle.std.proofs.Common.{◌≡◌, ℕ, ◌<◌, false}
use Rattle.check_table.specs.Channels.{outs}
use Rattle.check_table.specs.Joined.{joined}
use Rattle.check_table.proofs.channels.has_outs.Given as goal

abbrev pub invariant-loop-n : goal.invariant-loop-n
invariant-loop-n l = (x : ℕ) → x < l.n → outs (joined l.fn.edges l.fn.joins) l.fn.channel x ≡ false
