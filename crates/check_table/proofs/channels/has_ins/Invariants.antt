use Rattle.std.proofs.Common.{◌≡◌, ℕ, ◌<◌, false}
use Rattle.check_table.specs.Channels.{ins}
use Rattle.check_table.specs.Joined.{joined}
use Rattle.check_table.proofs.channels.has_ins.Given as goal

abbrev pub invariant-loop-n : goal.invariant-loop-n
invariant-loop-n l = (x : ℕ) → x < l.n → ins (joined l.fn.edges l.fn.joins) l.fn.channel x ≡ false
