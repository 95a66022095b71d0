use Rattle.std.proofs.Common.{◌≡◌, ℕ, false, length, get_or, take}
use Rattle.std.specs.List.{list_any}
use Rattle.compile_groups.specs.Needs.{has_unit}
use Rattle.compile_record.proofs.resource.touched.Given as goal

abbrev pub invariant-loop-g : goal.invariant-loop-g
invariant-loop-g l = record {
  count : length l.touched ≡ length l.groups.imports;
  told : (unit : ℕ) → get_or l.touched unit false ≡ list_any (has_unit unit) (take l.g l.groups.groups);
}
