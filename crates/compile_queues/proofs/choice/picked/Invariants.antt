use Rattle.compile_queues.specs.Internal.Chosen.{IsFound}
use Rattle.frame.specs.Numbered.{numbered}
use Rattle.compile_queues.proofs.choice.picked.Given as goal

abbrev pub invariant-loop-pass : goal.invariant-loop-pass
invariant-loop-pass l = IsFound (numbered l.frame) l.pass l.given l.queues l.found
