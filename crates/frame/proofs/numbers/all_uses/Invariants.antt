use Rattle.std.proofs.Common.{◌≡◌, take, map}
use Rattle.frame.specs.Numbered.{uses_of}
use Rattle.frame.proofs.numbers.all_uses.Given as goal

abbrev pub invariant-loop-pass : goal.invariant-loop-pass
invariant-loop-pass l = l.all ≡ map (uses_of l.frame l.table) (take l.pass-index l.frame.passes)
