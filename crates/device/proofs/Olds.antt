-- What stands for the old bytes of a destination.
use Rattle.std.proofs.Common.{◌≡◌, ℕ, ◌+◌, List, [], length, map, true, Some, refl, sym, ap, ◌∙◌, arith}
use Rattle.std.specs.Prelude.{slice_get, slice_index_or}
use Rattle.std.proofs.lemmas.List.{length-map}
use Rattle.std.proofs.lemmas.Option.{get_or_from_slice_get}
use Rattle.std.proofs.Math.Seq.{get_or-append_seam}
use Rattle.base.proofs.Operands.{destination_long}
use Rattle.base.specs.Applied.{applied}
use Rattle.base.specs.Operands.{sources_of, destination_of, operands_of, mapped}
use Rattle.base.specs.Shapes.{bytes_of, shape_at}
use Rattle.base.specs.Touches.{source_touch, destination_touch, touches_of}
use Rattle.base.specs.Wholes.{is_whole}
use Rattle.base.specs.declared.op.Op.{Op}
use Rattle.base.specs.declared.shape.Shape.{Shape}
use Rattle.base.specs.declared.touch.Touch.{Touch}
use Rattle.device.proofs.Sources.{one_more, out_long}
use Rattle.device.specs.Internal.Loads.{IsRunnable, LeadsOn}
use Rattle.kernel.specs.Anew.{IgnoresOld}
use Rattle.device_model.specs.Outputs.{no_old}

-- the last operand that an operation touches is its destination
pub last_touch : (shapes : List Shape) (op : Op ℕ) (k : ℕ) (t : Touch) → k + 1 ≡ length (operands_of op) → slice_get (touches_of shapes op) k ≡ Some t → t.whole ≡ is_whole (mapped (shape_at shapes) op)
last_touch shapes op k t last is =
    let xs = map (source_touch shapes op) (sources_of op) in
    let d = destination_touch shapes op in
    let seam : k ≡ length xs = omega (arith, last, one_more op, length-map (sources_of op) (source_touch shapes op)) in
    ap (λ (t : Touch). t.whole) (sym (get_or_from_slice_get (touches_of shapes op) k t d is) ∙ ap (λ n. slice_index_or (touches_of shapes op) n d) seam ∙ get_or-append_seam xs d [] d)

pub same_leads : (shapes : List Shape) (op : Op ℕ) (old other : List ℕ) → old ≡ other → LeadsOn shapes op old other
same_leads shapes op old other is sources = ap (applied shapes op sources) is

module _ (shapes : List Shape) (op : Op ℕ) (loaded : List (List ℕ)) where
  -- where none of them stay, as many bytes as there are lead to the same
  pub any_lead : ((op : Op Shape) → is_whole op ≡ true → IgnoresOld op) → IsRunnable shapes op loaded → is_whole (mapped (shape_at shapes) op) ≡ true → (bytes : List ℕ) → length bytes ≡ bytes_of (shape_at shapes (destination_of op)) → LeadsOn shapes op bytes (slice_index_or loaded (length (sources_of op)) (no_old shapes op))
  any_lead law R whole bytes long sources =
      let old = slice_index_or loaded (length (sources_of op)) (no_old shapes op) in
      law (mapped (shape_at shapes) op) whole _ _ _ bytes old (destination_long shapes op (length bytes) long) (destination_long shapes op (length old) (out_long shapes op loaded R old refl))
