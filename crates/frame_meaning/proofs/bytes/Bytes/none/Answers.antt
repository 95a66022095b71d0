use Rattle.std.proofs.Common.{◌++◌, ◌∷◌, [], ap₂, ◌∙◌}
use Rattle.std.proofs.lemmas.List.{replicate-append-replicate}
use Rattle.frame_meaning.proofs.bytes.Bytes.none.Goals as goal

pub loop-preserved : goal.loop-preserved
loop-preserved c = c.in_ok-push.ensures.items ∙ ap₂ (λ units one. units ++ one ∷ []) c.loop.invariant c.new.ensures ∙ replicate-append-replicate c.loop.counter 1 []
