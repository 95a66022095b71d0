use Rattle.std.proofs.Common.{◌≡◌, take}
use Rattle.frame.specs.Numbered.{numbered}
use Rattle.compile_groups.specs.Commands.{kept_commands}
use Rattle.compile_groups.proofs.commands.kept_commands.Given as goal

abbrev pub invariant-loop-pass : goal.invariant-loop-pass
invariant-loop-pass l = l.list ≡ kept_commands (take l.pass (numbered l.frame).passes) (take l.pass l.kept)
