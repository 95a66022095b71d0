-- Which operations read what they store to.
use Rattle.std.specs.Prelude.{ℕ, Bool, ◌==◌}
use Rattle.std.specs.List.{list_any}
use Rattle.base.specs.Operands.{sources_of, destination_of}
use Rattle.base.specs.declared.op.Op.{Op}

-- a source is the destination
abbrev pub in_place : Op ℕ → Bool
in_place op = list_any (λ source. source == destination_of op) (sources_of op)
