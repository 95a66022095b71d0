-- Operations on bytes by other numbers.
use Rattle.std.proofs.Common.{◌≡◌, ⊎_elim, ℕ, ◌<◌, List, [], ◌∷◌, length, map, get_or, slice_set, sym, ap, ap₂, ◌∙◌, subst}
use Rattle.std.specs.List.{All}
use Rattle.std.specs.Prelude.{slice_index_or}
use Rattle.std.proofs.lemmas.Bool.{cases_eq}
use Rattle.std.proofs.lemmas.List.{length-set, get_or-set_same, get_or-set_other}
use Rattle.std.proofs.lemmas.List.Elements.{All-head, All-tail}
use Rattle.std.proofs.lemmas.Simd.{map-map}
use Rattle.base.proofs.Lists.{map_same}
use Rattle.base.proofs.Operands.{sources_mapped, destination_mapped}
use Rattle.base.specs.Applied.{effect, applied, bytes_at, after_op}
use Rattle.base.specs.Operands.{sources_of, destination_of, operands_of, mapped}
use Rattle.base.specs.Shapes.{shape_at}
use Rattle.base.specs.declared.op.Op.{Op}
use Rattle.base.specs.declared.shape.Shape.{Shape}
use Rattle.law_meaning.proofs.Operations.{mapped_again, at_destination, at_sources}
use Rattle.frame_meaning.specs.Meaning.{after_ops}

-- what has a number has one of its own, and the same shape by it
pub record Renumbers (f : ℕ → ℕ) (shapes others : List Shape) (Has : ℕ → Type 0) : Type 0 where
  pub apart : (r s : ℕ) → Has r → Has s → f r ≡ f s → r ≡ s
  pub shape : (r : ℕ) → Has r → shape_at others (f r) ≡ shape_at shapes r

-- the same bytes by the other numbers
pub record Mirrors (f : ℕ → ℕ) (Has : ℕ → Type 0) (bytes mirror : List (List ℕ)) : Type 0 where
  pub there : (r : ℕ) → Has r → r < length bytes
  pub room : (r : ℕ) → Has r → f r < length mirror
  pub same : (r : ℕ) → Has r → bytes_at mirror (f r) ≡ bytes_at bytes r

module _ (f : ℕ → ℕ) (shapes others : List Shape) (Has : ℕ → Type 0) (R : Renumbers f shapes others Has) where
  module _ (op : Op ℕ) (of : All Has (operands_of op)) (bytes mirror : List (List ℕ)) (M : Mirrors f Has bytes mirror) where
    abbrev dst : ℕ
    dst = destination_of op

    abbrev stored : List ℕ
    stored = applied shapes op (map (bytes_at bytes) (sources_of op)) (bytes_at bytes dst)

    dst_has : Has (destination_of op)
    dst_has = at_destination Has op of

    same_op : mapped (shape_at others) (mapped f op) ≡ mapped (shape_at shapes) op
    same_op = mapped_again f (shape_at others) (shape_at shapes) op (λ k d lt. R.shape (get_or (operands_of op) k d) (of k d lt))

    same_sources : map (bytes_at mirror) (sources_of (mapped f op)) ≡ map (bytes_at bytes) (sources_of op)
    same_sources =
        ap (map (bytes_at mirror)) (sources_mapped f op)
        ∙ map-map (bytes_at mirror) f (sources_of op)
        ∙ map_same (λ r. bytes_at mirror (f r)) (bytes_at bytes) (sources_of op) (λ k d lt. M.same (get_or (sources_of op) k d) (at_sources Has op of k d lt))

    same_old : bytes_at mirror (destination_of (mapped f op)) ≡ bytes_at bytes dst
    same_old = ap (bytes_at mirror) (destination_mapped f op) ∙ M.same dst dst_has

    same_stored : applied others (mapped f op) (map (bytes_at mirror) (sources_of (mapped f op))) (bytes_at mirror (destination_of (mapped f op))) ≡ stored
    same_stored =
        ap₂ (λ s o. applied others (mapped f op) s o) same_sources same_old
        ∙ ap (λ o. effect o (slice_index_or (map (bytes_at bytes) (sources_of op)) 0 []) (slice_index_or (map (bytes_at bytes) (sources_of op)) 1 []) (slice_index_or (map (bytes_at bytes) (sources_of op)) 2 []) (bytes_at bytes dst)) same_op

    after_is : after_op others mirror (mapped f op) ≡ slice_set mirror (f dst) stored
    after_is = ap₂ (λ n x. slice_set mirror n x) (destination_mapped f op) same_stored

    next_mirrors : Mirrors f Has (after_op shapes bytes op) (after_op others mirror (mapped f op))
    next_mirrors = record {
      there = λ r has. subst (λ n. r < n) (sym (length-set bytes dst stored)) (M.there r has);
      room = λ r has. subst (λ n. f r < n) (sym (ap length after_is ∙ length-set mirror (f dst) stored)) (M.room r has);
      same = λ r has. ap (λ l. bytes_at l (f r)) after_is ∙ ⊎_elim (here r) (other r has) (cases_eq r dst);
    }
      where
        here : (r : ℕ) → r ≡ destination_of op → bytes_at (slice_set mirror (f (destination_of op)) stored) (f r) ≡ bytes_at (after_op shapes bytes op) r
        here r e = subst (λ v. bytes_at (slice_set mirror (f (destination_of op)) stored) (f v) ≡ bytes_at (after_op shapes bytes op) v) (sym e) (get_or-set_same mirror (f dst) stored [] (M.room dst dst_has) ∙ sym (get_or-set_same bytes dst stored [] (M.there dst dst_has)))

        other : (r : ℕ) → Has r → (r ≡ destination_of op → ⊥) → bytes_at (slice_set mirror (f (destination_of op)) stored) (f r) ≡ bytes_at (after_op shapes bytes op) r
        other r has ne = get_or-set_other mirror (f dst) (f r) stored [] (λ e. ne (R.apart r dst has dst_has e)) ∙ M.same r has ∙ sym (get_or-set_other bytes dst r stored [] ne)

  pub ops_mirror : (ops : List (Op ℕ)) → All (λ op. All Has (operands_of op)) ops → (bytes mirror : List (List ℕ)) → Mirrors f Has bytes mirror → Mirrors f Has (after_ops shapes bytes ops) (after_ops others mirror (map (mapped f) ops))
  ops_mirror [] of bytes mirror M = M
  ops_mirror (op ∷ ops) of bytes mirror M =
      ops_mirror ops (All-tail (λ (x : Op ℕ). All Has (operands_of x)) op ops of) (after_op shapes bytes op) (after_op others mirror (mapped f op))
      (next_mirrors op (All-head (λ (x : Op ℕ). All Has (operands_of x)) op ops of) bytes mirror M)
