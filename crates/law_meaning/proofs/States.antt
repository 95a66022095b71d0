-- Operations on the bytes of all units.
use Rattle.std.proofs.Common.{◌≡◌, ◌≢◌, ⊎_elim, ℕ, ◌<◌, true, false, List, [], ◌∷◌, length, map, get_or, slice_index_or, refl, sym, ap, ap₂, ◌∙◌, subst}
use Rattle.std.specs.List.{All}
use Rattle.std.proofs.lemmas.Bool.{cases_eq}
use Rattle.std.proofs.lemmas.List.{length-set, get_or-set_same, get_or-set_other}
use Rattle.std.proofs.lemmas.List.Elements.{All-head, All-tail}
use Rattle.base.proofs.Lists.{map_same}
use Rattle.base.proofs.Operands.{destination_mapped}
use Rattle.base.specs.Applied.{applied, bytes_at, after_op}
use Rattle.base.specs.Fits.{fits}
use Rattle.base.specs.InPlace.{in_place}
use Rattle.base.specs.Operands.{sources_of, destination_of, operands_of, mapped}
use Rattle.base.specs.Shapes.{bytes_of, shape_at}
use Rattle.base.specs.declared.op.Op.{Op}
use Rattle.base.specs.declared.shape.Shape.{Shape}
use Rattle.base.proofs.EffectLengths.{applied_long}
use Rattle.law_meaning.proofs.Operations.{at_destination}
use Rattle.frame_meaning.specs.Meaning.{after_ops}
use Rattle.kernel.specs.Anew.{IgnoresOld}

-- bytes for each unit, as many as it has
pub record AreSized (shapes : List Shape) (bytes : List (List ℕ)) : Type 0 where
  pub count : length bytes ≡ length shapes
  pub sized : (u : ℕ) → u < length shapes → length (bytes_at bytes u) ≡ bytes_of (shape_at shapes u)

-- an operation over known units that fits, and not in place
pub record IsFit (shapes : List Shape) (op : Op ℕ) : Type 0 where
  pub within : All (λ u. u < length shapes) (operands_of op)
  pub fitting : fits (mapped (shape_at shapes) op) ≡ true
  pub apart : in_place op ≡ false

module _ (shapes : List Shape) (op : Op ℕ) (fit : IsFit shapes op) where
  abbrev dst : ℕ
  dst = destination_of op

  abbrev stored : List (List ℕ) → List ℕ
  stored bytes = applied shapes op (map (bytes_at bytes) (sources_of op)) (bytes_at bytes dst)

  inside : (bytes : List (List ℕ)) → AreSized shapes bytes → dst < length bytes
  inside bytes S = subst (λ n. dst < n) (sym S.count) (at_destination (λ u. u < length shapes) op fit.within)

  pub stored_at : (bytes : List (List ℕ)) → AreSized shapes bytes → bytes_at (after_op shapes bytes op) dst ≡ stored bytes
  stored_at bytes S = get_or-set_same bytes dst (stored bytes) [] (inside bytes S)

  pub kept_at : (bytes : List (List ℕ)) (u : ℕ) → u ≢ dst → bytes_at (after_op shapes bytes op) u ≡ bytes_at bytes u
  kept_at bytes u other = get_or-set_other bytes dst u (stored bytes) [] other

  pub still_sized : (bytes : List (List ℕ)) → AreSized shapes bytes → AreSized shapes (after_op shapes bytes op)
  still_sized bytes S = record {
    count = length-set bytes dst (stored bytes) ∙ S.count;
    sized = λ u lt. ⊎_elim (here u) (λ other. ap length (kept_at bytes u other) ∙ S.sized u lt) (cases_eq u dst);
  }
    where
      long : length (stored bytes) ≡ bytes_of (shape_at shapes dst)
      long = applied_long shapes bytes op (λ k d lt. S.sized (get_or (operands_of op) k d) (fit.within k d lt)) fit.fitting

      here : (u : ℕ) → u ≡ destination_of op → length (bytes_at (after_op shapes bytes op) u) ≡ bytes_of (shape_at shapes u)
      here u e = subst (λ v. length (bytes_at (after_op shapes bytes op) v) ≡ bytes_of (shape_at shapes v)) (sym e) (ap length (stored_at bytes S) ∙ long)

  -- from the same sources, and the same old bytes where any of them is left
  module _ (b d : List (List ℕ)) (B : AreSized shapes b) (D : AreSized shapes d) (sources : All (λ s. bytes_at b s ≡ bytes_at d s) (sources_of op)) where
    same_sources : map (bytes_at b) (sources_of op) ≡ map (bytes_at d) (sources_of op)
    same_sources = map_same (bytes_at b) (bytes_at d) (sources_of op) sources

    long_old : (bytes : List (List ℕ)) → AreSized shapes bytes → length (bytes_at bytes dst) ≡ bytes_of (destination_of (mapped (shape_at shapes) op))
    long_old bytes S = S.sized dst (at_destination (λ u. u < length shapes) op fit.within) ∙ ap bytes_of (sym (destination_mapped (shape_at shapes) op))

    pub alike_old : bytes_at b dst ≡ bytes_at d dst → bytes_at (after_op shapes b op) dst ≡ bytes_at (after_op shapes d op) dst
    alike_old same = stored_at b B ∙ ap₂ (λ s o. applied shapes op s o) same_sources same ∙ sym (stored_at d D)

    pub alike_whole : IgnoresOld (mapped (shape_at shapes) op) → bytes_at (after_op shapes b op) dst ≡ bytes_at (after_op shapes d op) dst
    alike_whole ignores =
        stored_at b B
        ∙ ap (λ s. applied shapes op s (bytes_at b dst)) same_sources
        ∙ ignores (slice_index_or (map (bytes_at d) (sources_of op)) 0 []) (slice_index_or (map (bytes_at d) (sources_of op)) 1 []) (slice_index_or (map (bytes_at d) (sources_of op)) 2 []) (bytes_at b dst) (bytes_at d dst) (long_old b B) (long_old d D)
        ∙ sym (stored_at d D)

-- SEVERAL OPERATIONS

pub ops_sized : (shapes : List Shape) (ops : List (Op ℕ)) → All (IsFit shapes) ops → (bytes : List (List ℕ)) → AreSized shapes bytes → AreSized shapes (after_ops shapes bytes ops)
ops_sized shapes [] fit bytes S = S
ops_sized shapes (op ∷ ops) fit bytes S = ops_sized shapes ops (All-tail (IsFit shapes) op ops fit) (after_op shapes bytes op) (still_sized shapes op (All-head (IsFit shapes) op ops fit) bytes S)

-- a unit that no operation stores to
pub ops_keep : (shapes : List Shape) (ops : List (Op ℕ)) (u : ℕ) → All (λ op. u ≢ destination_of op) ops → (bytes : List (List ℕ)) → bytes_at (after_ops shapes bytes ops) u ≡ bytes_at bytes u
ops_keep shapes [] u none bytes = refl
ops_keep shapes (op ∷ ops) u none bytes =
    ops_keep shapes ops u (All-tail (λ (x : Op ℕ). u ≢ destination_of x) op ops none) (after_op shapes bytes op)
    ∙ get_or-set_other bytes (destination_of op) u (applied shapes op (map (bytes_at bytes) (sources_of op)) (bytes_at bytes (destination_of op))) [] (All-head (λ (x : Op ℕ). u ≢ destination_of x) op ops none)

pub ops_count : (shapes : List Shape) (ops : List (Op ℕ)) (bytes : List (List ℕ)) → length (after_ops shapes bytes ops) ≡ length bytes
ops_count shapes [] bytes = refl
ops_count shapes (op ∷ ops) bytes = ops_count shapes ops (after_op shapes bytes op) ∙ length-set bytes (destination_of op) (applied shapes op (map (bytes_at bytes) (sources_of op)) (bytes_at bytes (destination_of op)))
