use Rattle.std.proofs.Common.{◌∙◌}
use Rattle.frame.specs.Numbered.{numbered}
use Rattle.frame_cull.proofs.Reach.{as_long, few_rows, rows_forward, kept_are}
use Rattle.frame_cull.proofs.culling.cull.Goals as goal

pub needed-requires-clause-size : goal.needed-requires-clause-size
needed-requires-clause-size c = as_long (numbered c.args.frame.now) c.args.versions.now c.sources.result.now c.in_ok-roots.roots c.deref.result.now c.requires c.sources.ensures c.in_ok-roots.ensures.roots c.deref.ensures

pub needed-requires-clause-few : goal.needed-requires-clause-few
needed-requires-clause-few c = few_rows (numbered c.args.frame.now) c.args.versions.now c.sources.result.now c.in_ok-roots.roots c.deref.result.now c.requires c.sources.ensures c.in_ok-roots.ensures.roots c.deref.ensures c.in_ok-roots.ensures.few

pub needed-requires-clause-forward : goal.needed-requires-clause-forward
needed-requires-clause-forward c = rows_forward (numbered c.args.frame.now) c.args.versions.now c.sources.result.now c.in_ok-roots.roots c.deref.result.now c.requires c.sources.ensures c.in_ok-roots.ensures.roots c.deref.ensures

pub returns : goal.returns
returns c = kept_are (numbered c.args.frame.now) c.args.versions.now c.sources.result.now c.in_ok-roots.roots c.deref.result.now c.requires c.sources.ensures c.in_ok-roots.ensures.roots c.deref.ensures c.in_ok-refs.refs c.deref-2.result.now c.new.result c.in_ok-refs.ensures.size c.in_ok-refs.ensures.needed c.deref-2.ensures (c.new.ensures ∙ c.in_ok-positive.ensures)
