use Rattle.std.proofs.Common.{◌≡◌, map, take}
use Rattle.frame.specs.Numbered.{numbered}
use Rattle.frame_cull.proofs.culling.effects.Given as goal

abbrev pub invariant-loop-pass : goal.invariant-loop-pass
invariant-loop-pass l = l.roots ≡ map (λ pass. pass.side_effect) (take l.pass (numbered l.frame).passes)
