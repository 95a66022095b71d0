use Rattle.std.proofs.Common.{◌≡◌, drop, length}
use Rattle.frame_cull.specs.Internal.Roots.{rooted}
use Rattle.frame_cull.proofs.culling.root.Given as goal

abbrev pub invariant-loop-unit : goal.invariant-loop-unit
invariant-loop-unit l = record {
  size : length l.roots ≡ length l.fn.roots;
  same : rooted l.versions.makers (drop l.unit-index l.units) l.roots ≡ rooted l.versions.makers l.units l.fn.roots;
}
