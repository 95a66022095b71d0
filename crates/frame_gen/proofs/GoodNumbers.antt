-- A generated frame is good.
use Rattle.std.proofs.Common.{◌≡◌, ℕ, ◌*◌, ◌||◌, ◌<◌, ◌≤◌, true, false, List, [], ◌∷◌, length, map, take, get_or, replicate, refl, sym, ap, ◌∙◌, subst, arith, eq-eqb}
use Rattle.std.specs.List.{All, list_any, range_with_len, sum_by}
use Rattle.std.proofs.lemmas.Bool.{eq-eqb}
use Rattle.std.proofs.lemmas.List.{length-replicate}
use Rattle.std.proofs.lemmas.List.Elements.{All-replicate}
use Rattle.std.proofs.lemmas.List.Folds.{list_any_at, sum_by-replicate}
use Rattle.std.proofs.lemmas.List.FromFn.{length-range_with_len, length-map-range_with_len, get_or-map-range_with_len, take-map-range_with_len}
use Rattle.std.proofs.lemmas.List.Sums.{sum_by-cons}
use Rattle.base.proofs.Booleans.{or_true}
use Rattle.base.specs.Bounds.{sides_allowed, size_allowed}
use Rattle.base.specs.Operands.{rect_count}
use Rattle.base.specs.Shapes.{bytes_of}
use Rattle.frame.specs.Valid.{IsValid, IsValidPass, has_contents, is_import, renews}
use Rattle.frame.specs.Numbered.{IsWithin}
use Rattle.frame.specs.Uses.{import_fits}
use Rattle.frame.specs.declared.numbered.NumberedPass.{NumberedPass}
use Rattle.frame_gen.specs.Internal.Numbers.{image, numbered_at, generated_numbers}
use Rattle.frame_gen.specs.Generated.{exported}
use Rattle.frame_gen.specs.Operations.{drawn, kind_of, first_source, second_source, op_by}
use Rattle.frame_gen.proofs.ByKind.{few_kinds, is_earlier, no_rects, reads_later}
use Rattle.frame_gen.proofs.Exported.{few_exported, exported_differ, exported_small}
use Rattle.frame_gen.proofs.GoodPass.{pass_good, pass_within}
use Rattle.frame_gen.proofs.Numbering.{a_small, b_small}

module _ (number n : ℕ) (few : n ≤ 256) where
  abbrev pass_at : ℕ → NumberedPass
  pass_at i = numbered_at (drawn number i) i

  abbrev all : List ℕ
  all = range_with_len 0 n

  abbrev passes : List NumberedPass
  passes = map pass_at all

  -- what an earlier pass made has contents
  there : (before : ℕ) → before ≤ n → (u : ℕ) → u < before → has_contents (replicate n image) (take before passes) u ≡ true
  there before le u lt = subst (λ ps. has_contents (replicate n image) ps u ≡ true) (sym (take-map-range_with_len pass_at 0 n before le)) (ap (λ b. is_import (replicate n image) u || b) renewed ∙ or_true (is_import (replicate n image) u))
    where
      is : get_or (map pass_at (range_with_len 0 before)) u (pass_at u) ≡ pass_at u
      is = get_or-map-range_with_len pass_at 0 before u u (pass_at u) lt (omega arith)

      own : renews u (pass_at u) ≡ true
      own = ap (λ b. b || false) (eq-eqb u u refl)

      renewed : list_any (renews u) (map pass_at (range_with_len 0 before)) ≡ true
      renewed =
          let size = length-map-range_with_len pass_at 0 before in
          list_any_at (renews u) (map pass_at (range_with_len 0 before)) u (pass_at u) (omega (arith, size, lt)) (ap (renews u) is ∙ own)

  good_at : (i : ℕ) → i < n → (before : List NumberedPass) → ((u : ℕ) → u < i → has_contents (replicate n image) before u ≡ true) → IsValidPass (generated_numbers number n) before (pass_at i)
  good_at i lt before made =
      let w = drawn number i in
      pass_good (generated_numbers number n) n refl refl (kind_of w i) (few_kinds w i) w (first_source w i) (second_source w i) i lt (λ reads. is_earlier _ i (reads_later w i reads)) (λ reads. is_earlier _ i (reads_later w i reads)) (a_small n few w i lt) (b_small n few w i lt) before made

  within_at : (i : ℕ) → i < n → IsWithin 3 n (pass_at i)
  within_at i lt =
      let w = drawn number i in
      pass_within (generated_numbers number n) n refl refl (kind_of w i) (few_kinds w i) w (first_source w i) (second_source w i) i lt (λ reads. is_earlier _ i (reads_later w i reads)) (λ reads. is_earlier _ i (reads_later w i reads)) (a_small n few w i lt) (b_small n few w i lt)

  passes_good : (p : ℕ) (d : NumberedPass) → p < length passes → IsValidPass (generated_numbers number n) (take p passes) (get_or passes p d)
  passes_good p d lt =
      let size = length-map-range_with_len pass_at 0 n in
      let less : p < n = omega (arith, size, lt) in
      subst (IsValidPass (generated_numbers number n) (take p passes)) (sym (get_or-map-range_with_len pass_at 0 n p p d less (omega arith)))
      (good_at p less (take p passes) (there p (omega (arith, less))))

  passes_within : All (IsWithin 3 (length (replicate n image))) passes
  passes_within = subst (λ m. All (IsWithin 3 m) passes) (sym (length-replicate n image)) (λ p d lt.
      let size = length-map-range_with_len pass_at 0 n in
      let less : p < n = omega (arith, size, lt) in
      subst (IsWithin 3 n) (sym (get_or-map-range_with_len pass_at 0 n p p d less (omega arith))) (within_at p less))

  ops_counted : (is : List ℕ) → sum_by (λ pass. length pass.ops) (map pass_at is) ≡ length is
  ops_counted [] = refl
  ops_counted (i ∷ is) = let rest = ops_counted is in sum_by-cons (λ pass. length pass.ops) (pass_at i) (map pass_at is) ∙ omega (arith, rest)

  rects_counted : (is : List ℕ) → sum_by (λ pass. sum_by rect_count pass.ops) (map pass_at is) ≡ 0
  rects_counted [] = refl
  rects_counted (i ∷ is) =
      let w = drawn number i in
      let rest = rects_counted is in
      let none = no_rects (kind_of w i) (few_kinds w i) w (first_source w i) (second_source w i) i in
      let own = sum_by-cons (rect_count {R = ℕ}) (op_by (kind_of w i) w (first_source w i) (second_source w i) i) [] in
      sum_by-cons (λ pass. sum_by rect_count pass.ops) (pass_at i) (map pass_at is) ∙ omega (arith, rest, none, own)

  bytes_counted : sum_by (λ u. bytes_of u.shape) (replicate n image) ≤ 268435456
  bytes_counted = let sum : sum_by (λ u. bytes_of u.shape) (replicate n image) ≡ n * 16384 = sum_by-replicate (λ u. bytes_of u.shape) n image in omega (arith, sum, few)

  pub good_numbers : IsValid (generated_numbers number n)
  good_numbers = record {
    some_queue = omega arith;
    few_queues = omega arith;
    few_passes = let size = length-map-range_with_len pass_at 0 n in omega (arith, size, few);
    few_units = let size = length-replicate n image in omega (arith, size, few);
    few_exports = few_exported n few;
    few_ops = let sum = ops_counted all in let size = length-range_with_len 0 n in omega (arith, sum, size, few);
    few_rects = let sum = rects_counted all in omega (arith, sum);
    few_bytes = bytes_counted;
    sides = All-replicate (λ u. sides_allowed u.shape ≡ true) n image refl;
    sized = All-replicate (λ u. size_allowed u.shape ≡ true) n image refl;
    imports_fit = All-replicate (λ u. import_fits u.shape u.imported ≡ true) n image refl;
    within = passes_within;
    passes_good = passes_good;
    exports_within = subst (λ m. All (λ unit. unit < m) (exported n)) (sym (length-replicate n image)) (exported_small n);
    exports_there = λ k d lt. subst (λ ps. has_contents (replicate n image) ps (get_or (exported n) k d) ≡ true) (take_all) (there n (omega arith) (get_or (exported n) k d) (exported_small n k d lt));
    exports_once = exported_differ n;
  }
    where
      take_all : take n passes ≡ passes
      take_all = take-map-range_with_len pass_at 0 n n (omega arith)
