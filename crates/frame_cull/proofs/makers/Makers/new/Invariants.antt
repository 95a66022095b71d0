use Rattle.std.proofs.Common.{◌≡◌, ◌≤◌, ◌^◌, map, length}
use Rattle.std.specs.List.{All, range_with_len}
use Rattle.frame.specs.Numbered.{numbered}
use Rattle.frame_cull.specs.Versions.{versions}
use Rattle.frame_cull.proofs.makers.Makers.new.Given as goal

abbrev pub invariant-loop-unit : goal.invariant-loop-unit
invariant-loop-unit l = record {
  rows : l.rows.items ≡ map (versions (numbered l.frame) 0) (range_with_len 0 l.unit);
  small : All (λ row. length row ≤ 2 ^ 32) l.rows.items;
}
