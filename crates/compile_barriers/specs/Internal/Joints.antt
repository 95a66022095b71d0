-- Unions of uses, one by one.
use Rattle.std.specs.Int.RustNames.{bit_or}
use Rattle.compile_groups.specs.declared.unit_use.Use.{Use}
use Rattle.compile_barriers.specs.declared.joint.Joint.{Joint}

abbrev pub joined : Joint → Use → Joint
joined joint u = record {
  stages = record { 0 = bit_or joint.stages.0 u.stage.0 };
  accesses = record { 0 = bit_or joint.accesses.0 u.accesses.0 };
  writes = record { 0 = bit_or joint.writes.0 u.writes.0 };
}
