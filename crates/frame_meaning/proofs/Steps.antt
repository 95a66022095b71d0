-- The bytes and the marks, one pass further.
use Rattle.std.proofs.Common.{subst, zero, suc, map, take, drop, ◌≡◌, ℕ, ◌+◌, ◌<◌, ◌≤◌, ◌==◌, ◌&&◌, ◌⊎◌, inl, inr, List, [], ◌∷◌, length, get_or, slice_get, is_some, Bool, true, false, Option, None, Some, IfSome, replicate, unwrap_or, refl, sym, ap, ◌∙◌, drop-cons, arith}
use Rattle.std.specs.List.{All}
use Rattle.std.proofs.lemmas.Bool.{eqb-true}
use Rattle.std.proofs.lemmas.List.{length-map, length-replicate, drop_all}
use Rattle.std.proofs.lemmas.List.Elements.{All-head, All-tail}
use Rattle.std.proofs.lemmas.Option.{slice_get_cases}
use Rattle.base.specs.Applied.{bytes_at}
use Rattle.base.specs.Fits.{fits}
use Rattle.base.specs.InPlace.{in_place}
use Rattle.base.specs.Operands.{destination_of, operands_of, mapped}
use Rattle.base.specs.Shapes.{bytes_of, is_buffer, shape_at}
use Rattle.base.specs.declared.op.Op.{Op}
use Rattle.base.specs.declared.shape.Shape.{Shape}
use Rattle.frame.specs.Valid.{IsValid, IsValidPass, shapes_in}
use Rattle.frame.specs.Numbered.{NumberedFrame, IsWithin}
use Rattle.frame.specs.Units.{Unit}
use Rattle.frame.specs.Uses.{import_fits}
use Rattle.frame.specs.declared.numbered.NumberedPass.{NumberedPass}
use Rattle.frame_meaning.proofs.Marks.{marked_by-length, are_marked}
use Rattle.frame_meaning.proofs.Runs.{destination_within}
use Rattle.frame_meaning.specs.Meaning.{first_bytes, after_ops, after_passes, all_bytes}
use Rattle.frame_meaning.specs.Internal.Sizes.{AreSized, IsRunnable}
use Rattle.frame_meaning.specs.Internal.Stored.{marked_by, marked, AreMarked}

-- the pass that is looked up, with the rest of the passes
record AtPass (passes : List NumberedPass) (p : ℕ) (ops : List (Op ℕ)) : Type 0 where
  pass : NumberedPass
  within : p < length passes
  here : get_or passes p pass ≡ pass
  same : ops ≡ pass.ops
  rest : drop p passes ≡ pass ∷ drop (p + 1) passes

at_pass : (passes : List NumberedPass) (p : ℕ) (ops : List (Op ℕ)) → p < length passes → IfSome (slice_get passes p) (λ x. ops ≡ x.ops) → AtPass passes p ops
at_pass passes p ops lt says = by_case (slice_get_cases passes p).1
  where
    by_case : (((x : NumberedPass) × (p < length passes) × (slice_get passes p ≡ Some x) × (get_or passes p x ≡ x)) ⊎ ((length passes ≤ p) × (slice_get passes p ≡ None))) → AtPass passes p ops
    by_case (inl (x, less, got, same)) = record {
      pass = x;
      within = lt;
      here = same;
      same = subst (λ o. IfSome o (λ y. ops ≡ y.ops)) got says;
      rest = drop-cons passes p x lt ∙ ap (λ y. y ∷ drop (suc p) passes) same ∙ ap (λ k. x ∷ drop k passes) (let e : suc p ≡ p + 1 = omega arith in e);
    }
    by_case (inr (le, none)) = absurd (omega arith)

pub bytes_on : (shapes : List Shape) (passes : List NumberedPass) (p : ℕ) (bytes more total : List (List ℕ)) (ops : List (Op ℕ)) → p < length passes → IfSome (slice_get passes p) (λ x. ops ≡ x.ops) → after_passes shapes bytes (drop p passes) ≡ total → more ≡ after_ops shapes bytes ops → after_passes shapes more (drop (p + 1) passes) ≡ total
bytes_on shapes passes p bytes more total ops lt says so_far runs =
    let A = at_pass passes p ops lt says in
    ap (λ b. after_passes shapes b (drop (p + 1) passes)) (runs ∙ ap (after_ops shapes bytes) A.same) ∙ sym (ap (after_passes shapes bytes) A.rest) ∙ so_far

pub marks_on : (passes : List NumberedPass) (p : ℕ) (marks more total : List Bool) (ops : List (Op ℕ)) → p < length passes → IfSome (slice_get passes p) (λ x. ops ≡ x.ops) → marked (drop p passes) marks ≡ total → more ≡ marked_by ops marks → marked (drop (p + 1) passes) more ≡ total
marks_on passes p marks more total ops lt says so_far grown =
    let A = at_pass passes p ops lt says in
    ap (marked (drop (p + 1) passes)) (grown ∙ ap (λ o. marked_by o marks) A.same) ∙ sym (ap (λ ps. marked ps marks) A.rest) ∙ so_far

-- GOOD FRAMES

pub runnable_ops : (n : NumberedFrame) → IsValid n → (p : ℕ) (ops : List (Op ℕ)) → p < length n.passes → IfSome (slice_get n.passes p) (λ x. ops ≡ x.ops) → All (λ op. All (λ unit. unit < length n.units) (operands_of op)) ops → All (IsRunnable (shapes_in n)) ops
runnable_ops n G p ops lt says within =
    let A = at_pass n.passes p ops lt says in
    λ k d less.
    let good = (subst (λ x. IsValidPass n (take p n.passes) x) A.here (G.passes_good p A.pass lt)).ops_good k d (subst (λ o. k < length o) A.same less) in
    let same : get_or ops k d ≡ get_or A.pass.ops k d = ap (λ o. get_or o k d) A.same in
    record {
      operands = subst (λ m. All (λ unit. unit < m) (operands_of (get_or ops k d))) (sym (length-map n.units (λ u. u.shape))) (within k d less);
      fitting = subst (λ op. fits (mapped (shape_at (shapes_in n)) op) ≡ true) (sym same) good.fitting;
      not_in_place = subst (λ op. in_place op ≡ false) (sym same) good.not_in_place;
    }

import_sized : (u : Unit) (o : Option (List ℕ)) → u.imported ≡ o → import_fits u.shape u.imported ≡ true → length (first_bytes u) ≡ bytes_of u.shape
import_sized u None is fits = ap (λ i. length (unwrap_or i (replicate (bytes_of u.shape) 0))) is ∙ length-replicate (bytes_of u.shape) 0
import_sized u (Some bytes) is fits = ap (λ i. length (unwrap_or i (replicate (bytes_of u.shape) 0))) is ∙ eqb-true (length bytes) (bytes_of u.shape) (right (is_buffer u.shape) (length bytes == bytes_of u.shape) (subst (λ i. import_fits u.shape i ≡ true) is fits))
  where
    right : (a b : Bool) → (a && b) ≡ true → b ≡ true
    right true b e = e
    right false b e = absurd cc

first_sized : (all : List Unit) → All (λ u. import_fits u.shape u.imported ≡ true) all → (unit : ℕ) → unit < length all → length (bytes_at (map first_bytes all) unit) ≡ bytes_of (shape_at (map (λ u. u.shape) all) unit)
first_sized [] fit unit lt = absurd (omega arith)
first_sized (u ∷ all) fit zero lt = import_sized u u.imported refl (All-head (λ v. import_fits v.shape v.imported ≡ true) u all fit)
first_sized (u ∷ all) fit (suc unit) lt = first_sized all (All-tail (λ v. import_fits v.shape v.imported ≡ true) u all fit) unit (omega arith)

pub are_sized : (n : NumberedFrame) → IsValid n → AreSized (shapes_in n) (map first_bytes n.units)
are_sized n G = record {
  count = length-map n.units first_bytes ∙ sym (length-map n.units (λ u. u.shape));
  sized = λ unit lt. first_sized n.units G.imports_fit unit (subst (λ m. unit < m) (length-map n.units (λ u. u.shape)) lt);
}

-- the destinations of all passes are units
pub destinations : (n : NumberedFrame) → All (IsWithin (length n.queues) (length n.units)) n.passes → All (λ pass. All (λ op. destination_of op < length n.units) pass.ops) n.passes
destinations n within = λ p d lt. λ k e less. destination_within (get_or (get_or n.passes p d).ops k e) (length n.units) ((within p d lt).ops k e less)

pub item_within : (ops : List (Op ℕ)) (k count : ℕ) (op : Op ℕ) → All (λ o. All (λ unit. unit < count) (operands_of o)) ops → k < length ops → op ≡ get_or ops k op → destination_of op < count
item_within ops k count op within lt is = destination_within op count (subst (λ o. All (λ unit. unit < count) (operands_of o)) (sym is) (within k op lt))

pub marks_grown : (ops : List (Op ℕ)) (marks more : List Bool) (count : ℕ) → length marks ≡ count → more ≡ marked_by ops marks → length more ≡ count
marks_grown ops marks more count size is = ap length is ∙ marked_by-length ops marks ∙ size

pub all_marked : (n : NumberedFrame) → IsValid n → (p : ℕ) (marks : List Bool) → length n.passes ≤ p → marked (drop p n.passes) marks ≡ marked n.passes (map (λ u. is_some u.imported) n.units) → AreMarked n marks
all_marked n G p marks le is = are_marked n marks (destinations n G.within) (sym (ap (λ ps. marked ps marks) (drop_all p n.passes le)) ∙ is)

pub all_run : (n : NumberedFrame) (p : ℕ) (bytes : List (List ℕ)) → length n.passes ≤ p → after_passes (shapes_in n) bytes (drop p n.passes) ≡ all_bytes n → bytes ≡ all_bytes n
all_run n p bytes le is = sym (ap (after_passes (shapes_in n) bytes) (drop_all p n.passes le)) ∙ is

pub all_counted : (n : NumberedFrame) (bytes : List (List ℕ)) → AreSized (shapes_in n) bytes → length bytes ≡ length n.units
all_counted n bytes S = S.count ∙ length-map n.units (λ u. u.shape)
