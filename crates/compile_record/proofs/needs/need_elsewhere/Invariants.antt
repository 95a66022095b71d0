use Rattle.std.proofs.Common.{◌≡◌, ◌++◌, map}
use Rattle.std.specs.List.{flat_map, range_with_len}
use Rattle.compile_record.proofs.needs.need_elsewhere.Given as goal
use Rattle.compile_record.specs.Wanted.{last_on}
use Rattle.compile_record.specs.declared.mark.Marked.TheVariants.{Needs}

abbrev pub invariant-loop-p : goal.invariant-loop-p
invariant-loop-p l = l.script ≡ l.fn.script ++ map (Needs l.queue) (flat_map (last_on l.than l.uses) (range_with_len 0 l.p))
