use Rattle.std.proofs.Common.{length, ap, ◌∙◌}
use Rattle.std.proofs.lemmas.List.{length-set}
use Rattle.device_nodes.proofs.Walking.{owned_more, piece_there}
use Rattle.device_nodes.proofs.pieces.own.Goals as goal

pub loop-access-preserved : goal.loop-access-preserved
loop-access-preserved c = record {
  size = ap length c.set.ensures ∙ length-set c.loop-access.owners _ c.after-next.result ∙ c.loop-access.invariant.size;
  owned = owned_more c.as_slice-access-items.result.now c.loop-access.access-index _ c.loop-access-test.true c.args.view.now c.args.n c.family-family.result c.args.owners.now c.loop-access.owners c.set.new.self c.index.result.now c.after-next.result c.family-family.ensures (piece_there c.args.view.now c.requires.shaped c.args.n c.as_slice-access-items.result.now (c.as_slice-access-items.ensures ∙ ap (λ e. e.accesses) c.effect_at.ensures) c.loop-access.access-index _ c.loop-access-test.true (length c.loop-access.owners) (c.loop-access.invariant.size ∙ c.requires.size)) c.index.ensures c.after-next.ensures c.set.ensures c.loop-access.invariant.owned;
}
