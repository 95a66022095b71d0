use Rattle.std.proofs.Common.{◌≡◌, ◌++◌, drop}
use Rattle.frame.specs.Numbered.{numbered}
use Rattle.compile_groups.specs.Commands.{export_commands}
use Rattle.compile_groups.proofs.commands.push_exports.Given as goal

abbrev pub invariant-loop-k : goal.invariant-loop-k
invariant-loop-k l = l.list ++ export_commands (numbered l.frame) l.k (drop l.k l.exports) ≡ l.fn.list ++ export_commands (numbered l.frame) 0 l.exports
