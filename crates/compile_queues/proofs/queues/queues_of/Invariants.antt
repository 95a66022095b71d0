use Rattle.std.proofs.Common.{◌≡◌, map, take}
use Rattle.frame.specs.Numbered.{numbered}
use Rattle.compile_queues.proofs.queues.queues_of.Given as goal

abbrev pub invariant-loop-pass : goal.invariant-loop-pass
invariant-loop-pass l = l.queues ≡ map (λ pass. pass.queue) (take l.pass (numbered l.frame).passes)
