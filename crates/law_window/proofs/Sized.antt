-- Bytes keep the lengths of their units.
use Rattle.std.proofs.Common.{◌≡◌, ◌≢◌, ℕ, ◌<◌, List, [], ◌∷◌, length, map, get_or, slice_set, sym, ap, subst, ◌∙◌, ⊎_elim}
use Rattle.std.specs.List.{All}
use Rattle.std.proofs.lemmas.Bool.Decides.{eqb_tells}
use Rattle.std.proofs.lemmas.List.{get_or-set_same, get_or-set_other, length-set}
use Rattle.std.proofs.lemmas.List.Elements.{All-head, All-tail}
use Rattle.base.specs.Applied.{applied, bytes_at, after_op}
use Rattle.base.specs.Operands.{sources_of, destination_of, operands_of}
use Rattle.base.specs.Shapes.{bytes_of, shape_at}
use Rattle.base.specs.declared.op.Op.{Op}
use Rattle.base.specs.declared.shape.Shape.{Shape}
use Rattle.frame.specs.declared.numbered.NumberedPass.{NumberedPass}
use Rattle.frame_meaning.specs.Meaning.{after_ops, after_passes}
use Rattle.base.proofs.EffectLengths.{applied_long}
use Rattle.frame_meaning.specs.Internal.Sizes.{AreSized, IsRunnable}
use Rattle.law_window.proofs.Moves.{at_destination}

abbrev IsLong : List Shape → List (List ℕ) → ℕ → Type 0
IsLong shapes bytes unit = length (bytes_at bytes unit) ≡ bytes_of (shape_at shapes unit)

module _ (shapes : List Shape) (bytes : List (List ℕ)) (S : AreSized shapes bytes) (dst : ℕ) (out : List ℕ) (long : length out ≡ bytes_of (shape_at shapes dst)) (inside : dst < length shapes) where
  here : (unit : ℕ) → unit ≡ dst → IsLong shapes (slice_set bytes dst out) unit
  here unit same = subst (λ u. IsLong shapes (slice_set bytes dst out) u) (sym same) (ap length (get_or-set_same bytes dst out [] (subst (λ n. dst < n) (sym S.count) inside)) ∙ long)

  there : (unit : ℕ) → unit < length shapes → unit ≢ dst → IsLong shapes (slice_set bytes dst out) unit
  there unit lt other = ap length (get_or-set_other bytes dst unit out [] other) ∙ S.sized unit lt

  put_sized : AreSized shapes (slice_set bytes dst out)
  put_sized = record {
    count = length-set bytes dst out ∙ S.count;
    sized = λ unit lt. ⊎_elim (λ h. here unit h.1) (λ h. there unit lt h.1) (eqb_tells unit dst);
  }

op_sized : (shapes : List Shape) (bytes : List (List ℕ)) (op : Op ℕ) → AreSized shapes bytes → IsRunnable shapes op → AreSized shapes (after_op shapes bytes op)
op_sized shapes bytes op S R =
    let all : All (IsLong shapes bytes) (operands_of op) = λ k d lt. S.sized (get_or (operands_of op) k d) (R.operands k d lt) in
    let dst = destination_of op in
    put_sized shapes bytes S dst (applied shapes op (map (bytes_at bytes) (sources_of op)) (bytes_at bytes dst)) (applied_long shapes bytes op all R.fitting) (at_destination (λ x. x < length shapes) op R.operands)

ops_sized : (shapes : List Shape) (bytes : List (List ℕ)) (ops : List (Op ℕ)) → AreSized shapes bytes → All (IsRunnable shapes) ops → AreSized shapes (after_ops shapes bytes ops)
ops_sized shapes bytes [] S R = S
ops_sized shapes bytes (op ∷ ops) S R = ops_sized shapes (after_op shapes bytes op) ops (op_sized shapes bytes op S (All-head (IsRunnable shapes) op ops R)) (All-tail (IsRunnable shapes) op ops R)

pub passes_sized : (shapes : List Shape) (bytes : List (List ℕ)) (passes : List NumberedPass) → AreSized shapes bytes → All (λ pass. All (IsRunnable shapes) pass.ops) passes → AreSized shapes (after_passes shapes bytes passes)
passes_sized shapes bytes [] S R = S
passes_sized shapes bytes (pass ∷ passes) S R = passes_sized shapes (after_ops shapes bytes pass.ops) passes (ops_sized shapes bytes pass.ops S (All-head (λ p. All (IsRunnable shapes) p.ops) pass passes R)) (All-tail (λ p. All (IsRunnable shapes) p.ops) pass passes R)
