use Rattle.std.proofs.Common.{◌≡◌, ◌||◌, ℕ, false, length, get_or, take}
use Rattle.compile_groups.specs.Needs.{has_unit}
use Rattle.compile_record.proofs.resource.touch.Given as goal

abbrev pub invariant-loop-one : goal.invariant-loop-one
invariant-loop-one l = record {
  count : length l.touched ≡ length l.fn.touched;
  told : (unit : ℕ) → get_or l.touched unit false ≡ (has_unit unit (take l.one-index l.uses) || get_or l.fn.touched unit false);
}
