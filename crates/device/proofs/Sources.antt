-- The sources of an operation among the bytes that were loaded.
use Rattle.std.proofs.Common.{◌≡◌, ℕ, ◌+◌, ◌<◌, ◌≤◌, List, [], ◌∷◌, length, map, take, get_or, sym, ap, ◌∙◌, subst, ⊎_elim, arith}
use Rattle.std.specs.Prelude.{slice_index, slice_index_or}
use Rattle.std.proofs.lemmas.Bool.{cases_lt}
use Rattle.std.proofs.lemmas.List.{get_or-map, get_or-take, get_or_past, get_or_default, get_or_append_left, length-append, length-map, length-replicate, length-take-le}
use Rattle.std.proofs.Math.Seq.{get_or-append_seam}
use Rattle.base.proofs.Operands.{sources_mapped}
use Rattle.base.specs.Operands.{sources_of, destination_of, operands_of, mapped}
use Rattle.base.specs.Shapes.{bytes_of, shape_at}
use Rattle.base.specs.declared.op.Op.{Op}
use Rattle.base.specs.declared.shape.Shape.{Shape}
use Rattle.base.specs.declared.shape.Shape.TheVariants.{Buffer}
use Rattle.device.specs.Internal.Loads.{IsRunnable}
use Rattle.kernel.specs.Sources.{source_bytes}
use Rattle.device_model.specs.Outputs.{no_old}

pub one_more : (op : Op ℕ) → length (operands_of op) ≡ length (sources_of op) + 1
one_more op = length-append (sources_of op) (destination_of op ∷ [])

-- a source that there is not has no bytes
pub source_read : (n k : ℕ) (loaded : List (List ℕ)) → k < n → get_or (take n loaded) k [] ≡ get_or loaded k []
source_read n k loaded lt = get_or-take n loaded k [] lt

pub source_past : (n k : ℕ) (loaded : List (List ℕ)) → n ≤ length loaded → n ≤ k → get_or (take n loaded) k [] ≡ []
source_past n k loaded le ge = get_or_past (take n loaded) k [] (omega (arith, ge, length-take-le n loaded le))

module _ (shapes : List Shape) (op : Op ℕ) (loaded : List (List ℕ)) (R : IsRunnable shapes op loaded) where
  pub source_long : (k : ℕ) (r : List ℕ) → r ≡ slice_index_or (take (length (sources_of op)) loaded) k [] → length r ≡ source_bytes (mapped (shape_at shapes) op) k
  source_long k r is = ⊎_elim
      (λ (lt : k < length (sources_of op)).
      ap length (is ∙ source_read (length (sources_of op)) k loaded lt)
      ∙ R.sized k (omega (arith, lt, R.sources))
      ∙ ap (λ z. bytes_of (shape_at shapes z)) (get_or_append_left (sources_of op) (destination_of op ∷ []) 0 k lt)
      ∙ sym (ap (λ xs. slice_index (map bytes_of xs) k) (sources_mapped (shape_at shapes) op)
      ∙ get_or-map bytes_of (map (shape_at shapes) (sources_of op)) k (Buffer 0) 0 (omega (arith, lt, length-map (sources_of op) (shape_at shapes)))
      ∙ ap bytes_of (get_or-map (shape_at shapes) (sources_of op) k 0 (Buffer 0) lt)))
      (λ (ge : length (sources_of op) ≤ k).
      ap length (is ∙ source_past (length (sources_of op)) k loaded R.sources ge)
      ∙ sym (ap (λ xs. slice_index (map bytes_of xs) k) (sources_mapped (shape_at shapes) op) ∙ get_or_past (map bytes_of (map (shape_at shapes) (sources_of op))) k 0 (omega (arith, ge, length-map (map (shape_at shapes) (sources_of op)) bytes_of, length-map (sources_of op) (shape_at shapes)))))
      (cases_lt k (length (sources_of op)))

  pub destination_within : destination_of op < length shapes
  destination_within = subst (λ z. z < length shapes) (get_or-append_seam (sources_of op) (destination_of op) [] (destination_of op)) (R.operands (length (sources_of op)) (destination_of op) (omega (arith, one_more op)))

  -- the old bytes of the destination are as many as it has
  pub old_long : length (sources_of op) < length loaded → length (get_or loaded (length (sources_of op)) []) ≡ bytes_of (shape_at shapes (destination_of op))
  old_long lt = R.sized (length (sources_of op)) lt ∙ ap (λ z. bytes_of (shape_at shapes z)) (get_or-append_seam (sources_of op) (destination_of op) [] 0)

  -- the old bytes of the destination where they were loaded, and else zeros
  pub out_long : (out : List ℕ) → out ≡ slice_index_or loaded (length (sources_of op)) (no_old shapes op) → length out ≡ bytes_of (shape_at shapes (destination_of op))
  out_long out is =
      let n = length (sources_of op) in
      ⊎_elim
      (λ (lt : n < length loaded). ap length (is ∙ get_or_default loaded n (no_old shapes op) [] lt) ∙ old_long lt)
      (λ (ge : length loaded ≤ n). ap length (is ∙ get_or_past loaded n (no_old shapes op) ge) ∙ length-replicate {A = ℕ} (bytes_of (shape_at shapes (destination_of op))) 0)
      (cases_lt n (length loaded))
