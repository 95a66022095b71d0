use Rattle.std.proofs.Common.{◌≡◌, map}
use Rattle.std.specs.List.{filter, range_with_len}
use Rattle.frame_gen.specs.Generated.{spot, is_exported}
use Rattle.frame_gen.proofs.exports.exports.Given as goal

abbrev pub invariant-loop-i : goal.invariant-loop-i
invariant-loop-i l = l.exports ≡ map spot (filter (is_exported l.passes) (range_with_len 0 l.i))
