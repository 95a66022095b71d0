use Rattle.std.proofs.Common.{◌-◌, arith}
use Rattle.device_cache.proofs.Placing.{edge_first, edge_later}
use Rattle.device_cache.proofs.segment.is_edge.Goals as goal

pub returns-then-index-eq0 : goal.returns-then-index-eq0
returns-then-index-eq0 c = edge_first c.args.segments.now c.args.at c.requires.ascending (omega arith)

pub returns-else-index-eq0 : goal.returns-else-index-eq0
returns-else-index-eq0 c = edge_later c.args.segments.now c.args.at (c.args.index - 1) c.requires.ascending (omega arith) (omega arith)
