-- A frame that breaks no rule has a good numbered frame.
use Rattle.std.proofs.Common.{subst, zero, suc, map, take, ◌≡◌, ℕ, ◌+◌, ◌<◌, ◌≤◌, ◌&&◌, ◌||◌, ◌++◌, nat_lt, List, [], ◌∷◌, length, get_or, slice_get, not, is_some, Bool, true, false, Option, None, Some, refl, sym, ap, ap₂, ◌∙◌, arith}
use Rattle.std.specs.List.{position, All, flat_map, list_any}
use Rattle.std.specs.Option.{option_or, option_map, option_map_or}
use Rattle.std.proofs.lemmas.Bool.{le-ltb}
use Rattle.std.proofs.lemmas.List.{length-append, length-map, get_or-map, get_or_append_left, take-map}
use Rattle.std.proofs.Math.Seq.{get_or-append_seam}
use Rattle.std.proofs.lemmas.List.Elements.{All-map, All-replicate}
use Rattle.std.proofs.lemmas.List.Folds.{list_any_at}
use Rattle.base.specs.Bounds.{sides_allowed, size_allowed}
use Rattle.base.specs.Broken.{of_rule}
use Rattle.base.specs.Fits.{fits}
use Rattle.base.specs.InPlace.{in_place}
use Rattle.base.specs.Operands.{sources_of, destination_of, operands_of, mapped}
use Rattle.base.specs.Runs.{runs}
use Rattle.base.specs.Shapes.{shape_at}
use Rattle.base.specs.Walks.{first_in}
use Rattle.base.specs.declared.broken.Broken.{Broken}
use Rattle.base.specs.declared.op.Op.{Op}
use Rattle.base.specs.declared.shape.Family.{Family}
use Rattle.base.specs.declared.shape.Family.TheVariants.{Graphics}
use Rattle.base.specs.declared.shape.Shape.{Shape}
use Rattle.frame.proofs.Exports.{few_exports}
use Rattle.frame.proofs.Totals.{few_ops, few_rects, few_bytes}
use Rattle.frame.proofs.Known.{exports_within}
use Rattle.base.proofs.Booleans.{clash}
use Rattle.base.proofs.Lists.{each_of}
use Rattle.base.proofs.Absence.{all_pass, first_none, or_first, or_second, map_none, has_it, not_none, not_false, position-none}
use Rattle.frame.proofs.Once.{exports_once}
use Rattle.frame.proofs.Small.{names_good, then_uses, some_queue, few_queues, few_units, limits_none, unknown_none, some_layers, length_units, passes_few, layers_good, sides_good, sizes_allowed, passes_within, families_are}
use Rattle.frame.specs.FirstFault.{shapes_of, imports_of, rule_broken, misfit_broken, first_broken, first_fault}
use Rattle.frame.specs.Valid.{is_import, renews, has_contents, IsValidOp, IsValidPass, IsDeclared, IsValid}
use Rattle.frame.specs.Members.{member_at}
use Rattle.frame.specs.Numbered.{numbered, numbered_pass, write_each, writes_of, stored_of, uses_of, all_uses, export_units}
use Rattle.frame.specs.Paths.{fault_of}
use Rattle.frame.specs.Units.{Numbering, numbering, units_in, span_of, units_of, units, Unit, units_from, unit_from}
use Rattle.frame.specs.Uses.{family_of, writes_it, reads_it, undeclared_at, undeclared_operand, starts_whole, is_partial, not_whole_at, makes, is_there, is_marked, is_missing, unwritten_at, unwritten, import_fits, misfit_import, misfit_at, use_at, first_use}
use Rattle.frame.specs.declared.frame.Frame.{Frame}
use Rattle.frame.specs.declared.frame.Pass.{Pass}
use Rattle.frame.specs.declared.frame.QueueDecl.{QueueDecl}
use Rattle.frame.specs.declared.frame.Spot.{Spot}
use Rattle.frame.specs.declared.frame.Write.{Write}
use Rattle.frame.specs.declared.numbered.NumberedPass.{NumberedPass}
use Rattle.frame.specs.declared.numbered.Uses.{Uses}
use Rattle.frame.specs.declared.location.Operand.TheVariants.{Dst}
use Rattle.frame.specs.declared.location.Location.{Location}
use Rattle.frame.specs.declared.location.Location.TheVariants as at
use Rattle.frame.specs.declared.rule.Rule.{Rule}
use Rattle.frame.specs.declared.rule.Rule.TheVariants as rules

-- NOTHING FOUND

any_false : {X : Type 0} (test : X → Bool) (xs : List X) → list_any test xs ≡ false → All (λ x. test x ≡ false) xs
any_false {X} test xs none = λ k d lt. by_case k d lt (test (get_or xs k d)) refl
  where
    by_case : (k : ℕ) (d : X) → k < length xs → (b : Bool) → test (get_or xs k d) ≡ b → test (get_or xs k d) ≡ false
    by_case k d lt true e = absurd (clash (sym none ∙ list_any_at test xs k d lt e))
    by_case k d lt false e = e

-- a test that finds nothing among the images of a list
none_mapped : {X Y : Type 0} (test : Y → Bool) (f : X → Y) (xs : List X) → position test (map f xs) ≡ None → All (λ x. test (f x) ≡ false) xs
none_mapped test f xs none = λ k d lt. subst (λ y. test y ≡ false) (get_or-map f xs k d (f d) lt) (position-none test (map f xs) k (f d) (subst (λ n. k < n) (sym (length-map xs f)) lt) none)

none_at : {X Z : Type 0} (rule : ℕ → X → Option Z) (xs : List X) → first_in rule 0 xs ≡ None → (k : ℕ) (d : X) → k < length xs → rule k (get_or xs k d) ≡ None
none_at rule xs none k d lt = let e : 0 + k ≡ k = omega arith in subst (λ j. rule j (get_or xs k d) ≡ None) e (first_none rule 0 xs none k d lt)

-- a rule that gives nothing over the images of a list
rule_mapped : {X Y Z : Type 0} (rule : ℕ → Y → Option Z) (f : X → Y) (xs : List X) → first_in rule 0 (map f xs) ≡ None → (k : ℕ) (d : X) → k < length xs → rule k (f (get_or xs k d)) ≡ None
rule_mapped rule f xs none k d lt = subst (λ y. rule k y ≡ None) (get_or-map f xs k d (f d) lt) (none_at rule (map f xs) none k (f d) (subst (λ n. k < n) (sym (length-map xs f)) lt))

and_false : {X : Type 0} (b : Bool) (test : X → Bool) (xs : List X) → (b && list_any test xs) ≡ false → b ≡ true → All (λ x. test x ≡ false) xs
and_false true test xs none e = any_false test xs none
and_false false test xs none e = absurd (clash e)

not_true : (b : Bool) → b ≡ false → not b ≡ true
not_true true e = absurd (clash (sym e))
not_true false e = refl

-- ENTRIES AND THEIR UNITS

writes_all : (n : Numbering) (P : Bool → ℕ → Type 0) (writes : List (Write Spot)) → All (λ w. All (λ u. P w.fresh u) (units_of n w.what)) writes → All (λ w. P w.fresh w.what) (flat_map (writes_of n) writes)
writes_all n P writes all = each_of (λ w. P w.fresh w.what) (writes_of n) writes (λ k d lt. All-map (λ w. P w.fresh w.what) (write_each (get_or writes k d).fresh) (units_of n (get_or writes k d).what) (all k d lt))

entries_there : (there : ℕ → Bool) (n : Numbering) (spots : List Spot) → position (is_missing there) (map (span_of n) spots) ≡ None → All (λ u. there u ≡ true) (flat_map (units_of n) spots)
entries_there there n spots none = each_of (λ u. there u ≡ true) (units_of n) spots (λ k d lt. λ j e less. not_false (there (get_or (units_of n (get_or spots k d)) j e)) (any_false (λ u. not (there u)) (units_of n (get_or spots k d)) (none_mapped (is_missing there) (span_of n) spots none k d lt) j e less))

changes_there : (there : ℕ → Bool) (n : Numbering) (writes : List (Write Spot)) → position (λ w. not w.fresh && is_missing there w.units) (map (stored_of n) writes) ≡ None → All (λ w. w.fresh ≡ false → there w.what ≡ true) (flat_map (writes_of n) writes)
changes_there there n writes none = writes_all n (λ fresh u. fresh ≡ false → there u ≡ true) writes (λ k d lt. λ j e less. λ stale. not_false (there (get_or (units_of n (get_or writes k d).what) j e)) (and_false (not (get_or writes k d).fresh) (λ u. not (there u)) (units_of n (get_or writes k d).what) (none_mapped (λ w. not w.fresh && is_missing there w.units) (stored_of n) writes none k d lt) (not_true (get_or writes k d).fresh stale) j e less))

new_whole : (shapes : List Shape) (ops : List (Op ℕ)) (p : ℕ) (n : Numbering) (writes : List (Write Spot)) → first_in (not_whole_at shapes ops p) 0 (map (stored_of n) writes) ≡ None → All (λ w. w.fresh ≡ true → starts_whole shapes ops w.what ≡ true) (flat_map (writes_of n) writes)
new_whole shapes ops p n writes none = writes_all n (λ fresh u. fresh ≡ true → starts_whole shapes ops u ≡ true) writes (λ k d lt. λ j e less. λ new. not_false (starts_whole shapes ops (get_or (units_of n (get_or writes k d).what) j e)) (and_false (get_or writes k d).fresh (λ u. not (starts_whole shapes ops u)) (units_of n (get_or writes k d).what) (not_none ((get_or writes k d).fresh && is_partial shapes ops (span_of n (get_or writes k d).what)) (at.Write p k) (rule_mapped (not_whole_at shapes ops p) (stored_of n) writes none k d lt)) new j e less))

new_unread : (pass : NumberedPass) (n : Numbering) (writes : List (Write Spot)) → position (λ w. w.fresh && list_any (reads_it pass) (units_in w.units)) (map (stored_of n) writes) ≡ None → All (λ w. w.fresh ≡ true → reads_it pass w.what ≡ false) (flat_map (writes_of n) writes)
new_unread pass n writes none = writes_all n (λ fresh u. fresh ≡ true → reads_it pass u ≡ false) writes (λ k d lt. λ j e less. λ new. and_false (get_or writes k d).fresh (reads_it pass) (units_of n (get_or writes k d).what) (none_mapped (λ w. w.fresh && list_any (reads_it pass) (units_in w.units)) (stored_of n) writes none k d lt) new j e less)

-- CONTENTS

import_marked : (all : List Unit) (unit : ℕ) → is_marked (map (λ u. is_some u.imported) all) unit ≡ is_import all unit
import_marked [] unit = refl
import_marked (u ∷ all) zero = refl
import_marked (u ∷ all) (suc unit) = import_marked all unit

renews_same : (frame : Frame) (n : Numbering) (unit : ℕ) (passes : List Pass) → list_any (makes unit) (map (uses_of frame n) passes) ≡ list_any (renews unit) (map (numbered_pass frame n) passes)
renews_same frame n unit [] = refl
renews_same frame n unit (pass ∷ passes) = ap (λ b. renews unit (numbered_pass frame n pass) || b) (renews_same frame n unit passes)

pub there_same : (frame : Frame) (unit : ℕ) (passes : List Pass) → is_there (imports_of frame) (map (uses_of frame (numbering frame)) passes) unit ≡ has_contents (units frame) (map (numbered_pass frame (numbering frame)) passes) unit
there_same frame unit passes = ap₂ (λ a b. a || b) (import_marked (units frame) unit) (renews_same frame (numbering frame) unit passes)

pub there_before : (frame : Frame) (p unit : ℕ) → is_there (imports_of frame) (take p (all_uses frame)) unit ≡ has_contents (units frame) (take p (numbered frame).passes) unit
there_before frame p unit =
    let n = numbering frame in
    ap (λ uses. is_there (imports_of frame) uses unit) (take-map (uses_of frame n) p frame.passes)
    ∙ there_same frame unit (take p frame.passes)
    ∙ ap (λ passes. has_contents (units frame) passes unit) (sym (take-map (numbered_pass frame n) p frame.passes))

-- OPERATIONS

family_there : (queues : List QueueDecl) (q : ℕ) (family : Family) → slice_get (map (λ d. d.family) queues) q ≡ Some family → option_map_or (λ d. d.family) (slice_get queues q) Graphics ≡ family
family_there [] q family is = absurd (clash (ap is_some is))
family_there (d ∷ queues) zero family is = ap (λ o. option_map_or (λ f. f) o Graphics) is
family_there (d ∷ queues) (suc q) family is = family_there queues q family is

read_or_written : (a b c : Bool) → (a || (b && c)) ≡ true → (a || c) ≡ true
read_or_written true b c e = refl
read_or_written false true c e = e
read_or_written false false c e = absurd (clash e)

written : (a b c : Bool) → (a || (b && c)) ≡ true → b ≡ false → a ≡ true
written true b c e last = refl
written false true c e last = absurd (clash (sym last))
written false false c e last = absurd (clash e)

one_more : {X : Type 0} (xs : List X) (y : X) → length (xs ++ y ∷ []) ≡ length xs + 1
one_more xs y = length-append xs (y ∷ [])

-- the operands of an operation of which none is undeclared
module _ (pass : NumberedPass) (p k : ℕ) (op : Op ℕ) (none : undeclared_operand pass p k op ≡ None) where
  abbrev is_declared : ℕ → ℕ → Bool
  is_declared j unit = writes_it pass unit || (nat_lt (suc j) (length (operands_of op)) && reads_it pass unit)

  declared_at : (j : ℕ) (d : ℕ) → j < length (operands_of op) → is_declared j (get_or (operands_of op) j d) ≡ true
  declared_at j d lt = has_it (is_declared j (get_or (operands_of op) j d)) (at.Operand p k (member_at op j)) (none_at (undeclared_at pass p k op) (operands_of op) none j d lt)

  declared_sources : All (λ unit. (writes_it pass unit || reads_it pass unit) ≡ true) (sources_of op)
  declared_sources = λ j d lt.
      let size : length (operands_of op) ≡ length (sources_of op) + 1 = one_more (sources_of op) (destination_of op) in
      let here = declared_at j d (omega (arith, size)) in
      let unit = get_or (sources_of op) j d in
      let same : get_or (operands_of op) j d ≡ unit = get_or_append_left (sources_of op) (destination_of op ∷ []) d j lt in
      read_or_written (writes_it pass unit) (nat_lt (suc j) (length (operands_of op))) (reads_it pass unit) (subst (λ u. is_declared j u ≡ true) same here)

  declared_destination : writes_it pass (destination_of op) ≡ true
  declared_destination =
      let j = length (sources_of op) in
      let size : length (operands_of op) ≡ length (sources_of op) + 1 = one_more (sources_of op) (destination_of op) in
      let here = declared_at j (destination_of op) (omega (arith, size)) in
      let same : get_or (operands_of op) j (destination_of op) ≡ destination_of op = get_or-append_seam (sources_of op) (destination_of op) [] (destination_of op) in
      let last : nat_lt (suc j) (length (operands_of op)) ≡ false = le-ltb (suc j) (length (operands_of op)) (omega (arith, size)) in
      written (writes_it pass (destination_of op)) (nat_lt (suc j) (length (operands_of op))) (reads_it pass (destination_of op)) (subst (λ u. is_declared j u ≡ true) same here) last

-- GOOD FRAMES

module _ (frame : Frame) (none : first_broken frame ≡ None) where
  abbrev n : Numbering
  n = numbering frame

  abbrev shapes : List Shape
  shapes = shapes_of frame

  abbrev uses : List Uses
  uses = all_uses frame

  abbrev by : Rule → Option (Broken Rule Location)
  by rule = rule_broken rule frame shapes uses

  abbrev by_written : Option (Broken Rule Location)
  by_written = option_map (of_rule rules.Unwritten) (unwritten (imports_of frame) uses (export_units frame))

  abbrev by_imports : Option (Broken Rule Location)
  by_imports = option_map (of_rule rules.Fits) (misfit_import frame.resources)

  abbrev by_fits : Option (Broken Rule Location)
  by_fits = misfit_broken frame shapes uses

  abbrev from_in_place : Option (Broken Rule Location)
  from_in_place = option_or (by rules.InPlace) (by rules.ReadNew)

  abbrev from_fits : Option (Broken Rule Location)
  from_fits = option_or by_fits from_in_place

  abbrev from_written : Option (Broken Rule Location)
  from_written = option_or by_written from_fits

  abbrev from_whole : Option (Broken Rule Location)
  from_whole = option_or (by rules.Whole) from_written

  abbrev from_declared : Option (Broken Rule Location)
  from_declared = option_or (by rules.Declared) from_whole

  all_none : option_or (by rules.Runs) from_declared ≡ None
  all_none = sym (then_uses frame (names_good frame none)) ∙ none

  declared_none : from_declared ≡ None
  declared_none = or_second (by rules.Runs) from_declared all_none

  whole_none : from_whole ≡ None
  whole_none = or_second (by rules.Declared) from_whole declared_none

  written_none : from_written ≡ None
  written_none = or_second (by rules.Whole) from_written whole_none

  fits_none : from_fits ≡ None
  fits_none = or_second by_written from_fits written_none

  in_place_none : from_in_place ≡ None
  in_place_none = or_second by_fits from_in_place fits_none

  -- a rule that no pass breaks
  at_pass : (rule : Rule) → by rule ≡ None → (p : ℕ) (d : Pass) → p < length frame.passes → use_at rule frame shapes p (uses_of frame n (get_or frame.passes p d)) ≡ None
  at_pass rule rule_none p d lt = rule_mapped (use_at rule frame shapes) (uses_of frame n) frame.passes (map_none (of_rule rule) (first_use rule frame shapes uses) rule_none) p d lt

  unwritten_none : unwritten (imports_of frame) uses (export_units frame) ≡ None
  unwritten_none = map_none (of_rule rules.Unwritten) (unwritten (imports_of frame) uses (export_units frame)) (or_first by_written from_fits written_none)

  misfit_none : by_fits ≡ None
  misfit_none = or_first by_fits from_in_place fits_none

  module _ (p : ℕ) (d : Pass) (lt : p < length frame.passes) where
    abbrev pass : Pass
    pass = get_or frame.passes p d

    abbrev here : NumberedPass
    here = numbered_pass frame n pass

    abbrev there : ℕ → Bool
    there = is_there (imports_of frame) (take p uses)

    abbrev reads_found : Option Location
    reads_found = option_map (λ k. at.Read p k) (position (is_missing there) (map (span_of n) pass.reads))

    abbrev changes_found : Option Location
    changes_found = option_map (λ j. at.Write p j) (position (λ w. not w.fresh && is_missing there w.units) (map (stored_of n) pass.writes))

    entries_none : option_or reads_found changes_found ≡ None
    entries_none = rule_mapped (unwritten_at (imports_of frame) uses) (uses_of frame n) frame.passes (or_first (first_in (unwritten_at (imports_of frame) uses) 0 uses) (option_map (λ i. at.Export i) (position (is_missing (is_there (imports_of frame) uses)) (export_units frame))) unwritten_none) p d lt

    good_op : (k : ℕ) (e : Op ℕ) → k < length here.ops → IsValidOp (numbered frame) here (get_or here.ops k e)
    good_op k e less =
        let op = get_or here.ops k e in
        let undeclared = none_at (undeclared_operand here p) here.ops (at_pass rules.Declared (or_first (by rules.Declared) from_whole declared_none) p d lt) k e less in
        record {
          on_queue = λ family is. subst (λ f. runs op f ≡ true) (family_there frame.queues here.queue family is) (all_pass (λ o. runs o (family_of frame here.queue)) here.ops (map_none (λ j. at.Op p j) (position (λ o. not (runs o (family_of frame here.queue))) here.ops) (at_pass rules.Runs (or_first (by rules.Runs) from_declared all_none) p d lt)) k e less);
          declared_sources = declared_sources here p k op undeclared;
          declared_destination = declared_destination here p k op undeclared;
          fitting = has_it (fits (mapped (shape_at shapes) op)) (at.Op p k) (none_at (misfit_at shapes p) here.ops (at_pass rules.Fits (or_second by_imports (by rules.Fits) misfit_none) p d lt) k e less);
          not_in_place = position-none in_place here.ops k e less (map_none (λ j. at.Operand p j Dst) (position in_place here.ops) (at_pass rules.InPlace (or_first (by rules.InPlace) (by rules.ReadNew) in_place_none) p d lt));
        }

    good_pass : IsValidPass (numbered frame) (take p (numbered frame).passes) here
    good_pass = record {
      reads_there = λ k e less. sym (there_before frame p (get_or here.reads k e)) ∙ entries_there there n pass.reads (map_none (λ k. at.Read p k) (position (is_missing there) (map (span_of n) pass.reads)) (or_first reads_found changes_found entries_none)) k e less;
      changes_there = λ k e less. λ stale. sym (there_before frame p (get_or here.writes k e).what) ∙ changes_there there n pass.writes (map_none (λ j. at.Write p j) (position (λ w. not w.fresh && is_missing there w.units) (map (stored_of n) pass.writes)) (or_second reads_found changes_found entries_none)) k e less stale;
      new_whole = new_whole shapes here.ops p n pass.writes (at_pass rules.Whole (or_first (by rules.Whole) from_written whole_none) p d lt);
      new_unread = new_unread here n pass.writes (map_none (λ j. at.Write p j) (position (λ w. w.fresh && list_any (reads_it here) (units_in w.units)) (map (stored_of n) pass.writes)) (at_pass rules.ReadNew (or_second (by rules.InPlace) (by rules.ReadNew) in_place_none) p d lt));
      ops_good = good_op;
    }

  -- of numbered passes from the declared ones
  good_passes : (p : ℕ) (d : NumberedPass) → p < length (numbered frame).passes → IsValidPass (numbered frame) (take p (numbered frame).passes) (get_or (numbered frame).passes p d)
  good_passes p d lt = by_list frame.passes refl (subst (λ m. p < m) (length-map frame.passes (numbered_pass frame n)) lt)
    where
      by_list : (passes : List Pass) → frame.passes ≡ passes → p < length frame.passes → IsValidPass (numbered frame) (take p (numbered frame).passes) (get_or (numbered frame).passes p d)
      by_list [] e less = absurd (subst (λ ps. p < length ps → ⊥) (sym e) (λ no. omega arith) less)
      by_list (first ∷ passes) e less = subst (λ x. IsValidPass (numbered frame) (take p (numbered frame).passes) x) (sym (get_or-map (numbered_pass frame n) frame.passes p first d less)) (good_pass p first less)

  imports_good : All (λ r. import_fits r.shape r.import ≡ true) frame.resources
  imports_good = all_pass (λ r. import_fits r.shape r.import) frame.resources (map_none (λ i. at.Import i) (position (λ r. not (import_fits r.shape r.import)) frame.resources) (map_none (of_rule rules.Fits) (misfit_import frame.resources) (or_first by_imports (by rules.Fits) misfit_none)))

  units_all : (P : Unit → Type 0) → All (λ r. P (unit_from r)) frame.resources → All P (units frame)
  units_all P all = each_of P units_from frame.resources (λ k d lt. All-replicate P (get_or frame.resources k d).layers (unit_from (get_or frame.resources k d)) (all k d lt))

  good_exports : All (λ unit. has_contents (units frame) (numbered frame).passes unit ≡ true) (numbered frame).exports
  good_exports = λ k e less. sym (there_same frame (get_or (numbered frame).exports k e) frame.passes) ∙ entries_there (is_there (imports_of frame) uses) n frame.exports (map_none (λ i. at.Export i) (position (is_missing (is_there (imports_of frame) uses)) (export_units frame)) (or_second (first_in (unwritten_at (imports_of frame) uses) 0 uses) (option_map (λ i. at.Export i) (position (is_missing (is_there (imports_of frame) uses)) (export_units frame))) unwritten_none)) k e less

  pub good : IsValid (numbered frame)
  good = record {
    some_queue = subst (λ m. 0 < m) (sym (families_are frame)) (some_queue frame (names_good frame none));
    few_queues = subst (λ m. m ≤ 4) (sym (families_are frame)) (few_queues frame (names_good frame none));
    few_passes = subst (λ m. m ≤ 256) (sym (length-map frame.passes (numbered_pass frame n))) (passes_few frame (limits_none frame (names_good frame none)));
    few_units = subst (λ m. m ≤ 256) (sym (length_units frame.resources)) (few_units frame (limits_none frame (names_good frame none)));
    few_exports = few_exports frame none;
    few_ops = few_ops frame none;
    few_rects = few_rects frame none;
    few_bytes = few_bytes frame none;
    sides = units_all (λ u. sides_allowed u.shape ≡ true) (sides_good frame (limits_none frame (names_good frame none)));
    sized = units_all (λ u. size_allowed u.shape ≡ true) (sizes_allowed frame (limits_none frame (names_good frame none)));
    imports_fit = units_all (λ u. import_fits u.shape u.imported ≡ true) imports_good;
    within = passes_within frame (names_good frame none);
    passes_good = good_passes;
    exports_within = subst (λ m. All (λ unit. unit < m) (numbered frame).exports) (sym (length_units frame.resources)) (exports_within frame (some_layers frame (limits_none frame (names_good frame none))) (unknown_none frame (names_good frame none)));
    exports_there = good_exports;
    exports_once = exports_once frame (names_good frame none);
  }

  pub declared : IsDeclared frame
  declared =
      let limits = limits_none frame (names_good frame none) in
      record {
        layers = layers_good frame limits;
        sides = sides_good frame limits;
        sizes = sizes_allowed frame limits;
        imports = imports_good;
        known = unknown_none frame (names_good frame none);
      }

pub declared_by_law : (frame : Frame) → first_fault frame ≡ None → IsDeclared frame
declared_by_law frame none = declared frame (map_none fault_of (first_broken frame) none)
