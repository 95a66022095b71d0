-- The names of limits, as fault lines print them.
use Rattle.std.specs.Prelude.{ℕ, List, codes}
use Rattle.base.specs.declared.limit.Limit.{Limit}
use Rattle.base.specs.declared.limit.Limit.TheVariants.{Input, Queues, Resources, Passes, Ops, Rects, Exports, Memories, Pieces, Nodes, Readbacks, Side, Size, Total, Layers}

abbrev pub limit_name : Limit → List ℕ
limit_name Input = codes "Input"
limit_name Queues = codes "Queues"
limit_name Resources = codes "Resources"
limit_name Passes = codes "Passes"
limit_name Ops = codes "Ops"
limit_name Rects = codes "Rects"
limit_name Exports = codes "Exports"
limit_name Memories = codes "Memories"
limit_name Pieces = codes "Pieces"
limit_name Nodes = codes "Nodes"
limit_name Readbacks = codes "Readbacks"
limit_name Side = codes "Side"
limit_name Size = codes "Size"
limit_name Total = codes "Total"
limit_name Layers = codes "Layers"
