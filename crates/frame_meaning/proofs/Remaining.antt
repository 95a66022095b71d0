-- The operations that are still to run.
use Rattle.std.proofs.Common.{subst, suc, drop, ◌≡◌, ℕ, ◌+◌, ◌<◌, ◌≤◌, ◌++◌, ◌||◌, ◌⊎◌, inl, inr, List, [], ◌∷◌, length, get_or, slice_get, Bool, true, false, None, Some, IfSome, refl, sym, ap, ◌∙◌, drop-cons, arith}
use Rattle.std.specs.List.{list_any}
use Rattle.std.specs.Option.{option_map_or}
use Rattle.std.proofs.lemmas.List.{drop_all}
use Rattle.std.proofs.lemmas.List.Concat.{flat_map-cons}
use Rattle.std.proofs.lemmas.List.Folds.{list_any-append}
use Rattle.std.proofs.lemmas.Option.{slice_get_cases}
use Rattle.base.specs.Applied.{after_op}
use Rattle.base.specs.Operands.{touches}
use Rattle.base.specs.declared.op.Op.{Op}
use Rattle.base.specs.declared.shape.Shape.{Shape}
use Rattle.frame.specs.declared.numbered.NumberedPass.{NumberedPass}
use Rattle.frame_meaning.proofs.Lists.{item_first}
use Rattle.frame_meaning.specs.Internal.Held.{ops_at, all_ops, ops_from}
use Rattle.frame_meaning.specs.Meaning.{after_ops, after_passes}

module _ (passes : List NumberedPass) (p : ℕ) where
  pub ops_are : (ops : List (Op ℕ)) → p < length passes → IfSome (slice_get passes p) (λ x. ops ≡ x.ops) → ops ≡ ops_at passes p
  ops_are ops lt says = by_case (slice_get_cases passes p).1
    where
      by_case : (((x : NumberedPass) × (p < length passes) × (slice_get passes p ≡ Some x) × (get_or passes p x ≡ x)) ⊎ ((length passes ≤ p) × (slice_get passes p ≡ None))) → ops ≡ ops_at passes p
      by_case (inl (x, less, got, same)) = subst (λ o. IfSome o (λ y. ops ≡ y.ops)) got says ∙ sym (ap (λ o. option_map_or (λ y. y.ops) o []) got)
      by_case (inr (le, none)) = absurd (omega arith)

  pub whole_pass : p < length passes → ops_from passes p 0 ≡ all_ops (drop p passes)
  whole_pass lt = by_case (slice_get_cases passes p).1
    where
      by_case : (((x : NumberedPass) × (p < length passes) × (slice_get passes p ≡ Some x) × (get_or passes p x ≡ x)) ⊎ ((length passes ≤ p) × (slice_get passes p ≡ None))) → ops_from passes p 0 ≡ all_ops (drop p passes)
      by_case (inl (x, less, got, same)) =
          ap (λ o. option_map_or (λ y. y.ops) o [] ++ all_ops (drop (p + 1) passes)) got
          ∙ sym (flat_map-cons (λ y. y.ops) x (drop (p + 1) passes))
          ∙ ap all_ops (sym (drop-cons passes p x lt ∙ ap (λ y. y ∷ drop (suc p) passes) same ∙ ap (λ k. x ∷ drop k passes) (let e : suc p ≡ p + 1 = omega arith in e)))
      by_case (inr (le, none)) = absurd (omega arith)

  pub next_op : (ops : List (Op ℕ)) (k : ℕ) (op : Op ℕ) → ops ≡ ops_at passes p → k < length (ops_at passes p) → op ≡ get_or ops k op → ops_from passes p k ≡ op ∷ ops_from passes p (k + 1)
  next_op ops k op are lt is = ap (λ xs. xs ++ all_ops (drop (p + 1) passes)) (item_first (ops_at passes p) k op lt (ap (λ xs. get_or xs k op) (sym are) ∙ sym is))

  pub no_op : (k : ℕ) → length (ops_at passes p) ≤ k → ops_from passes p k ≡ all_ops (drop (p + 1) passes)
  no_op k le = ap (λ ops. ops ++ all_ops (drop (p + 1) passes)) (drop_all k (ops_at passes p) le)

  pub no_pass : length passes ≤ p → all_ops (drop p passes) ≡ []
  no_pass le = ap all_ops (drop_all p passes le)

  -- whether a unit is touched, by this pass or by those after it
  module _ (unit : ℕ) (lt : p < length passes) (ops : List (Op ℕ)) (are : ops ≡ ops_at passes p) (total : Bool) (so_far : list_any (touches unit) (all_ops (drop p passes)) ≡ total) where
    either : total ≡ (list_any (touches unit) ops || list_any (touches unit) (all_ops (drop (p + 1) passes)))
    either = sym so_far ∙ ap (list_any (touches unit)) (sym (whole_pass lt)) ∙ list_any-append (touches unit) (ops_at passes p) (all_ops (drop (p + 1) passes)) ∙ ap (λ o. list_any (touches unit) o || list_any (touches unit) (all_ops (drop (p + 1) passes))) (sym are)

    pub later : false ≡ list_any (touches unit) ops → list_any (touches unit) (all_ops (drop (p + 1) passes)) ≡ total
    later none = sym (either ∙ ap (λ b. b || list_any (touches unit) (all_ops (drop (p + 1) passes))) (sym none))

    pub here : true ≡ list_any (touches unit) ops → true ≡ total
    here some = sym (either ∙ ap (λ b. b || list_any (touches unit) (all_ops (drop (p + 1) passes))) (sym some))

pub after_ops-append : (shapes : List Shape) (first second : List (Op ℕ)) (bytes : List (List ℕ)) → after_ops shapes bytes (first ++ second) ≡ after_ops shapes (after_ops shapes bytes first) second
after_ops-append shapes [] second bytes = refl
after_ops-append shapes (op ∷ first) second bytes = after_ops-append shapes first second (after_op shapes bytes op)

pub as_ops : (shapes : List Shape) (passes : List NumberedPass) (bytes : List (List ℕ)) → after_ops shapes bytes (all_ops passes) ≡ after_passes shapes bytes passes
as_ops shapes [] bytes = refl
as_ops shapes (pass ∷ passes) bytes =
    ap (after_ops shapes bytes) (flat_map-cons (λ y. y.ops) pass passes)
    ∙ after_ops-append shapes pass.ops (all_ops passes) bytes
    ∙ as_ops shapes passes (after_ops shapes bytes pass.ops)
