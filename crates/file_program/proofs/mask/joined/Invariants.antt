use Rattle.std.proofs.Common.{◌≡◌, ◌++◌, ◌-◌, drop, string_bytes}
use Rattle.vk.specs.Texts.{joined}
use Rattle.file_program.proofs.Names.{barred}
use Rattle.file_program.proofs.mask.joined.Given as goal

abbrev pub invariant-loop-name : goal.invariant-loop-name
invariant-loop-name g l = string_bytes l.text ++ barred (drop l.k (g.M.Mask.names l.mask)) ≡ joined (g.M.Mask.names l.mask)

abbrev pub decreases-loop-name : goal.decreases-loop-name
decreases-loop-name g l = 16 - l.k
