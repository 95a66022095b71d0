use Rattle.std.proofs.Common.{◌≡◌, ◌++◌, drop, length}
use Rattle.frame_cull.specs.Internal.Rows.{added, added_numbers}
use Rattle.frame_cull.proofs.makers.Makers.add.Given as goal

abbrev pub invariant-loop-write : goal.invariant-loop-write
invariant-loop-write l = record {
  size : length l.self ≡ length l.fn.self;
  rows : added l.pass (drop l.write-index l.writes) l.self ≡ added l.pass l.writes l.fn.self;
  numbers : l.numbers ++ added_numbers l.pass (drop l.write-index l.writes) l.self ≡ added_numbers l.pass l.writes l.fn.self;
}
