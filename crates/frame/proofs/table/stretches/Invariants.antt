use Rattle.std.proofs.Common.{◌≡◌, ◌+◌, ◌≤◌, ◌++◌, drop}
use Rattle.std.specs.List.{All}
use Rattle.frame.specs.Units.{stretches, layers_of}
use Rattle.frame.proofs.table.stretches.Given as goal

abbrev pub invariant-loop-resource : goal.invariant-loop-resource
invariant-loop-resource l = record {
  all : l.list ++ stretches l.first (drop l.resource-index l.resources) ≡ stretches 0 l.resources;
  few : l.first + layers_of (drop l.resource-index l.resources) ≤ 256;
  small : All (λ s. s.first + s.layers ≤ 256) l.list;
}
