-- What a command stores, by the bytes that it loaded.
use Rattle.std.specs.Prelude.{ℕ, List, [], length, take, replicate, slice_index_or}
use Rattle.std.specs.Option.{option_map_or}
use Rattle.base.specs.Applied.{applied}
use Rattle.base.specs.Operands.{sources_of, destination_of}
use Rattle.base.specs.Shapes.{bytes_of, shape_at}
use Rattle.base.specs.declared.op.Op.{Op}
use Rattle.base.specs.declared.shape.Shape.{Shape}
use Rattle.check_program.specs.Apart.{op_at}
use Rattle.program.specs.Rules.{shapes_of}
use Rattle.program.specs.declared.program.Program.{Program}

-- zeros stand for the old bytes of a whole operation, which has no influence of them
abbrev pub no_old : List Shape → Op ℕ → List ℕ
no_old shapes op = replicate (bytes_of (shape_at shapes (destination_of op))) 0

-- it loaded the bytes of its sources and then, where some of them stay, the old ones of its destination
abbrev pub stored_by : List Shape → Op ℕ → List (List ℕ) → List ℕ
stored_by shapes op loaded = applied shapes op (take (length (sources_of op)) loaded) (slice_index_or loaded (length (sources_of op)) (no_old shapes op))

abbrev pub stored : Program → ℕ → List (List ℕ) → List ℕ
stored program n loaded = option_map_or (λ op. stored_by (shapes_of program) op loaded) (op_at program n) []
