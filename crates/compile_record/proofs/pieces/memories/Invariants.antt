use Rattle.std.proofs.Common.{◌≡◌, ◌∷◌, map}
use Rattle.std.specs.List.{filter, range_with_len}
use Rattle.frame.specs.Numbered.{numbered}
use Rattle.compile_record.specs.Pieces.{has_memory, own_memory, imported}
use Rattle.compile_record.proofs.pieces.memories.Given as goal
use Rattle.program.specs.declared.program.Memory.TheVariants.{Plain}

abbrev pub invariant-loop-r : goal.invariant-loop-r
invariant-loop-r l = l.list ≡ Plain l.heap ∷ map (λ r. own_memory l.groups r (imported (numbered l.frame) r)) (filter (has_memory l.groups) (range_with_len 0 l.r))
