-- Marks of the units that have contents.
use Rattle.std.proofs.Common.{subst, zero, suc, map, ◌≡◌, ◌≢◌, ℕ, ◌<◌, ◌==◌, ◌||◌, List, [], ◌∷◌, Option, length, slice_set, slice_index_or, is_some, Bool, true, false, None, Some, if◌then◌else◌, refl, sym, ap, ap₂, ◌∙◌, arith, ⊎_elim}
use Rattle.std.specs.List.{All, list_any, range_with_len}
use Rattle.std.proofs.lemmas.Bool.Decides.{eqb_tells}
use Rattle.std.proofs.lemmas.List.{length-map, length-set, get_or-set_same, get_or-set_other, ext_get_or, get_or_read}
use Rattle.std.proofs.lemmas.List.Elements.{All-head, All-tail}
use Rattle.std.proofs.lemmas.List.FromFn.{length-map-range_with_len, get_or-map-range_with_len}
use Rattle.base.proofs.Booleans.{or_assoc, or_false}
use Rattle.base.specs.Applied.{bytes_at}
use Rattle.base.specs.Operands.{destination_of}
use Rattle.base.specs.declared.op.Op.{Op}
use Rattle.frame.specs.Valid.{is_import}
use Rattle.frame.specs.Numbered.{NumberedFrame}
use Rattle.frame.specs.Units.{Unit}
use Rattle.frame.specs.declared.numbered.NumberedPass.{NumberedPass}
use Rattle.frame_meaning.specs.Meaning.{all_bytes, stores_to, meaning}
use Rattle.frame_meaning.specs.Internal.Stored.{marked_by, marked, AreMarked, chosen}

or_true : (a : Bool) → true ≡ (a || true)
or_true true = refl
or_true false = refl

one_mark : (marks : List Bool) (dst unit : ℕ) → dst < length marks → slice_index_or (slice_set marks dst true) unit false ≡ (slice_index_or marks unit false || (dst == unit))
one_mark marks dst unit lt = ⊎_elim same other (eqb_tells dst unit)
  where
    same : ((dst == unit) ≡ true) × (dst ≡ unit) → slice_index_or (slice_set marks dst true) unit false ≡ (slice_index_or marks unit false || (dst == unit))
    same h = subst (λ u. slice_index_or (slice_set marks dst true) u false ≡ true) h.1 (get_or-set_same marks dst true false lt) ∙ or_true (slice_index_or marks unit false) ∙ ap (λ b. slice_index_or marks unit false || b) (sym h.0)

    other : ((dst == unit) ≡ false) × (dst ≢ unit) → slice_index_or (slice_set marks dst true) unit false ≡ (slice_index_or marks unit false || (dst == unit))
    other h = get_or-set_other marks dst unit true false (λ e. h.1 (sym e)) ∙ sym (or_false (slice_index_or marks unit false)) ∙ ap (λ b. slice_index_or marks unit false || b) (sym h.0)

pub marked_by-length : (ops : List (Op ℕ)) (marks : List Bool) → length (marked_by ops marks) ≡ length marks
marked_by-length [] marks = refl
marked_by-length (op ∷ ops) marks = marked_by-length ops (slice_set marks (destination_of op) true) ∙ length-set marks (destination_of op) true

marked_by-at : (ops : List (Op ℕ)) (marks : List Bool) (unit : ℕ) → All (λ op. destination_of op < length marks) ops → slice_index_or (marked_by ops marks) unit false ≡ (slice_index_or marks unit false || list_any (λ op. destination_of op == unit) ops)
marked_by-at [] marks unit within = sym (or_false (slice_index_or marks unit false))
marked_by-at (op ∷ ops) marks unit within =
    let here = All-head (λ o. destination_of o < length marks) op ops within in
    let rest = subst (λ m. All (λ o. destination_of o < m) ops) (sym (length-set marks (destination_of op) true)) (All-tail (λ o. destination_of o < length marks) op ops within) in
    marked_by-at ops (slice_set marks (destination_of op) true) unit rest
    ∙ ap (λ b. b || list_any (λ o. destination_of o == unit) ops) (one_mark marks (destination_of op) unit here)
    ∙ or_assoc (slice_index_or marks unit false) (destination_of op == unit) (list_any (λ o. destination_of o == unit) ops)

pub marked-length : (passes : List NumberedPass) (marks : List Bool) → length (marked passes marks) ≡ length marks
marked-length [] marks = refl
marked-length (pass ∷ passes) marks = marked-length passes (marked_by pass.ops marks) ∙ marked_by-length pass.ops marks

marked-at : (passes : List NumberedPass) (marks : List Bool) (unit : ℕ) → All (λ pass. All (λ op. destination_of op < length marks) pass.ops) passes → slice_index_or (marked passes marks) unit false ≡ (slice_index_or marks unit false || list_any (stores_to unit) passes)
marked-at [] marks unit within = sym (or_false (slice_index_or marks unit false))
marked-at (pass ∷ passes) marks unit within =
    let here = All-head (λ p. All (λ op. destination_of op < length marks) p.ops) pass passes within in
    let rest = subst (λ m. All (λ p. All (λ op. destination_of op < m) p.ops) passes) (sym (marked_by-length pass.ops marks)) (All-tail (λ p. All (λ op. destination_of op < length marks) p.ops) pass passes within) in
    marked-at passes (marked_by pass.ops marks) unit rest
    ∙ ap (λ b. b || list_any (stores_to unit) passes) (marked_by-at pass.ops marks unit here)
    ∙ or_assoc (slice_index_or marks unit false) (stores_to unit pass) (list_any (stores_to unit) passes)

import-at : (all : List Unit) (unit : ℕ) → slice_index_or (map (λ u. is_some u.imported) all) unit false ≡ is_import all unit
import-at [] unit = refl
import-at (u ∷ all) zero = refl
import-at (u ∷ all) (suc unit) = import-at all unit

pub are_marked : (n : NumberedFrame) (marks : List Bool) → All (λ pass. All (λ op. destination_of op < length n.units) pass.ops) n.passes → marks ≡ marked n.passes (map (λ u. is_some u.imported) n.units) → AreMarked n marks
are_marked n marks within is =
    let size = length-map n.units (λ u. is_some u.imported) in
    record {
      count = ap length is ∙ marked-length n.passes (map (λ u. is_some u.imported) n.units) ∙ size;
      each = λ unit lt. ap (λ m. slice_index_or m unit false) is ∙ marked-at n.passes (map (λ u. is_some u.imported) n.units) unit (subst (λ m. All (λ pass. All (λ op. destination_of op < m) pass.ops) n.passes) (sym size) within) ∙ ap (λ b. b || list_any (stores_to unit) n.passes) (import-at n.units unit);
    }

-- WHAT IS CHOSEN

pub chosen-length : (marks : List Bool) (bytes : List (List ℕ)) → length marks ≡ length bytes → length (chosen marks bytes) ≡ length marks
chosen-length [] bytes size = refl
chosen-length (mark ∷ marks) [] size = absurd (omega (arith, size))
chosen-length (mark ∷ marks) (one ∷ bytes) size = ap suc (chosen-length marks bytes (omega (arith, size)))

pub chosen-at : (marks : List Bool) (bytes : List (List ℕ)) (unit : ℕ) → length marks ≡ length bytes → slice_index_or (chosen marks bytes) unit None ≡ (if slice_index_or marks unit false then Some (bytes_at bytes unit) else None)
chosen-at [] bytes unit size = refl
chosen-at (mark ∷ marks) [] unit size = absurd (omega (arith, size))
chosen-at (mark ∷ marks) (one ∷ bytes) zero size = refl
chosen-at (mark ∷ marks) (one ∷ bytes) (suc unit) size = chosen-at marks bytes unit (omega (arith, size))

-- the picture of a unit
module _ (marks : List Bool) (bytes : List (List ℕ)) (all : List (Option (List ℕ))) (unit : ℕ) (is : chosen marks bytes ≡ all) (size : length marks ≡ length bytes) (lt : unit < length all) where
  pub mark_inside : unit < length marks
  mark_inside = subst (λ m. unit < m) (ap length (sym is) ∙ chosen-length marks bytes size) lt

  pub bytes_inside : unit < length bytes
  bytes_inside = subst (λ m. unit < m) size mark_inside

  pub picture_got : (mark found : Bool) → mark ≡ slice_index_or marks unit mark → mark ≡ found → (if found then Some (bytes_at bytes unit) else None) ≡ slice_index_or all unit None
  picture_got mark found got same = ap (λ b. if b then Some (bytes_at bytes unit) else None) (sym same ∙ get_or_read marks unit mark mark_inside got false) ∙ sym (chosen-at marks bytes unit size) ∙ ap (λ ps. slice_index_or ps unit None) is

pub meanings : (n : NumberedFrame) (marks : List Bool) (bytes : List (List ℕ)) → AreMarked n marks → length bytes ≡ length n.units → bytes ≡ all_bytes n → chosen marks bytes ≡ map (meaning n) (range_with_len 0 (length n.units))
meanings n marks bytes A size is =
    let same : length marks ≡ length bytes = A.count ∙ sym size in
    ext_get_or None (chosen marks bytes) (map (meaning n) (range_with_len 0 (length n.units))) (chosen-length marks bytes same ∙ A.count ∙ sym (length-map-range_with_len (meaning n) 0 (length n.units))) (λ unit lt.
    let inside : unit < length n.units = subst (λ m. unit < m) (chosen-length marks bytes same ∙ A.count) lt in
    chosen-at marks bytes unit same
    ∙ ap₂ (λ b x. if b then Some (bytes_at x unit) else None) (A.each unit inside) is
    ∙ sym (get_or-map-range_with_len (meaning n) 0 (length n.units) unit unit None inside (omega arith)))
