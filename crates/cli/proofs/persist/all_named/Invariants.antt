use Rattle.std.proofs.Common.{◌≡◌, map, take, true}
use Rattle.std.specs.List.{list_all}
use Rattle.base.specs.Names.{is_name}
use Rattle.cli.proofs.persist.all_named.Given as goal

abbrev pub invariant-loop-part : goal.invariant-loop-part
invariant-loop-part l = record {
  names : l.names ≡ map (λ part. part.now) (take l.part-index l.entries);
  each : list_all is_name (map (λ part. part.now) (take l.part-index l.entries)) ≡ true;
}
