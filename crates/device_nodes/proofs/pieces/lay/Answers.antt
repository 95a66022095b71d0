use Rattle.std.proofs.Common.{length, ap, ◌∙◌}
use Rattle.std.proofs.lemmas.List.{length-set}
use Rattle.device_nodes.proofs.Walking.{laid_more, piece_there}
use Rattle.device_nodes.proofs.pieces.lay.Goals as goal

pub loop-access-preserved : goal.loop-access-preserved
loop-access-preserved c = record {
  size = ap length c.set.ensures ∙ length-set c.loop-access.layouts _ c.layout_after-next.result ∙ c.loop-access.invariant.size;
  laid = laid_more c.as_slice-access-items.result.now c.loop-access.access-index _ c.loop-access-test.true c.args.layouts.now c.loop-access.layouts c.set.new.self c.index.result.now c.layout_after-next.result (piece_there c.args.view.now c.requires.shaped c.args.n c.as_slice-access-items.result.now (c.as_slice-access-items.ensures ∙ ap (λ e. e.accesses) c.effect_at.ensures) c.loop-access.access-index _ c.loop-access-test.true (length c.loop-access.layouts) (c.loop-access.invariant.size ∙ c.requires.size)) c.index.ensures c.layout_after-next.ensures c.set.ensures c.loop-access.invariant.laid;
}
