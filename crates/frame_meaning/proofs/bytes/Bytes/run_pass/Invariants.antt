use Rattle.frame.specs.Numbered.{numbered}
use Rattle.frame_meaning.specs.Internal.Held.{IsAt, ops_from}
use Rattle.frame_meaning.proofs.bytes.Bytes.run_pass.Given as goal

abbrev pub invariant-loop-k : goal.invariant-loop-k
invariant-loop-k l = IsAt (numbered l.frame) (ops_from (numbered l.frame).passes l.pass l.k) l.self
