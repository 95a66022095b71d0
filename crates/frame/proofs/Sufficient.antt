-- A frame breaks no rule where its limits and names break none and its numbered frame is good.
use Rattle.std.proofs.Common.{subst, zero, suc, map, take, replicate, ◌≡◌, ℕ, ◌+◌, ◌<◌, ◌≤◌, ◌&&◌, ◌||◌, ◌++◌, nat_lt, List, [], ◌∷◌, length, get_or, slice_get, not, Bool, true, false, Option, None, Some, refl, sym, ap, ap₂, ◌∙◌, arith, ⊎_elim}
use Rattle.std.specs.List.{position, All, flat_map, list_any}
use Rattle.std.specs.Option.{option_or, option_map, option_map_or}
use Rattle.std.proofs.lemmas.Bool.{cases_Bool, lt-ltb, ltb-false, ltb-true, not_from_true, or_left}
use Rattle.std.proofs.lemmas.List.{get_or-map, get_or_append_left, get_or-append-add, length-append, length-map}
use Rattle.std.proofs.lemmas.List.Elements.{All-cons, All-head, All-nil, All-tail}
use Rattle.std.proofs.lemmas.List.Folds.{list_any_none}
use Rattle.base.proofs.Absence.{stays_out, passes_test}
use Rattle.base.specs.Broken.{of_rule}
use Rattle.base.specs.Fits.{fits}
use Rattle.base.specs.InPlace.{in_place}
use Rattle.base.specs.Operands.{sources_of, destination_of, operands_of, mapped}
use Rattle.base.specs.Runs.{runs}
use Rattle.base.specs.Shapes.{shape_at}
use Rattle.base.specs.Walks.{first_in}
use Rattle.base.specs.declared.op.Op.{Op}
use Rattle.base.specs.declared.shape.Family.TheVariants.{Graphics}
use Rattle.base.specs.declared.shape.Shape.{Shape}
use Rattle.frame.proofs.Exports.{position_past}
use Rattle.frame.proofs.Necessary.{there_before, there_same}
use Rattle.frame.proofs.Small.{limits_none, some_layers}
use Rattle.frame.specs.FirstFault.{first_broken, first_fault, imports_of, name_broken, shapes_of, use_broken}
use Rattle.frame.specs.Valid.{IsValid, IsValidPass, has_contents}
use Rattle.frame.specs.Members.{member_at}
use Rattle.frame.specs.Numbered.{all_uses, export_units, numbered, numbered_pass, stored_of, uses_of, write_each, writes_of}
use Rattle.frame.specs.Paths.{fault_of}
use Rattle.frame.specs.Units.{Numbering, numbering, unit_from, units, units_from, units_in, span_of, units_of}
use Rattle.frame.specs.Uses.{family_of, first_use, import_fits, is_missing, is_partial, is_there, misfit_at, misfit_import, not_whole_at, reads_it, starts_whole, undeclared_at, undeclared_operand, unwritten, unwritten_at, use_at, writes_it}
use Rattle.frame.specs.declared.frame.Frame.{Frame}
use Rattle.frame.specs.declared.frame.Pass.{Pass}
use Rattle.frame.specs.declared.frame.QueueDecl.{QueueDecl}
use Rattle.frame.specs.declared.frame.Resource.{Resource}
use Rattle.frame.specs.declared.frame.Spot.{Spot}
use Rattle.frame.specs.declared.frame.Write.{Write}
use Rattle.frame.specs.declared.numbered.NumberedPass.{NumberedPass}
use Rattle.frame.specs.declared.numbered.Uses.{Uses}
use Rattle.frame.specs.declared.location.Operand.TheVariants.{Dst}
use Rattle.frame.specs.declared.location.Location.TheVariants as at
use Rattle.frame.specs.declared.rule.Rule.{Rule}
use Rattle.frame.specs.declared.rule.Rule.TheVariants as rules

-- NOTHING TO FIND

pub both_none : {X : Type 0} (a b : Option X) → a ≡ None → b ≡ None → option_or a b ≡ None
both_none a b e f = ap (λ o. option_or o b) e ∙ f

pub none_found : {X : Type 0} (test : X → Bool) (xs : List X) → All (λ x. test x ≡ false) xs → position test xs ≡ None
none_found test [] all = refl
none_found test (x ∷ xs) all = position_past test x xs (All-head (λ y. test y ≡ false) x xs all) ∙ ap (option_map suc) (none_found test xs (All-tail (λ y. test y ≡ false) x xs all))

none_mapped : {X Y : Type 0} (test : Y → Bool) (f : X → Y) (xs : List X) → All (λ x. test (f x) ≡ false) xs → position test (map f xs) ≡ None
none_mapped test f [] all = refl
none_mapped test f (x ∷ xs) all = position_past test (f x) (map f xs) (All-head (λ y. test (f y) ≡ false) x xs all) ∙ ap (option_map suc) (none_mapped test f xs (All-tail (λ y. test (f y) ≡ false) x xs all))

pub none_first : {X Y : Type 0} (rule : ℕ → X → Option Y) (i : ℕ) (xs : List X) → ((k : ℕ) (d : X) → k < length xs → rule (i + k) (get_or xs k d) ≡ None) → first_in rule i xs ≡ None
none_first rule i [] all = refl
none_first rule i (x ∷ xs) all =
    both_none (rule i x) (first_in rule (suc i) xs) (let e : i + 0 ≡ i = omega arith in subst (λ j. rule j x ≡ None) e (all 0 x (omega arith)))
    (none_first rule (suc i) xs (λ k d lt. let e : i + suc k ≡ suc i + k = omega arith in subst (λ j. rule j (get_or xs k d) ≡ None) e (all (suc k) d (omega arith))))

pub none_in : {X Y : Type 0} (rule : ℕ → X → Option Y) (xs : List X) → ((k : ℕ) (d : X) → k < length xs → rule k (get_or xs k d) ≡ None) → first_in rule 0 xs ≡ None
none_in rule xs all = none_first rule 0 xs (λ k d lt. let e : k ≡ 0 + k = omega arith in subst (λ j. rule j (get_or xs k d) ≡ None) e (all k d lt))

-- a rule over the images of a list
pub none_over : {X Y Z : Type 0} (rule : ℕ → Y → Option Z) (f : X → Y) (xs : List X) → ((k : ℕ) (d : X) → k < length xs → rule k (f (get_or xs k d)) ≡ None) → first_in rule 0 (map f xs) ≡ None
none_over rule f [] all = refl
none_over rule f (x ∷ xs) all = none_in rule (map f (x ∷ xs)) (λ k d lt. subst (λ y. rule k y ≡ None) (sym (get_or-map f (x ∷ xs) k x d (subst (λ n. k < n) (length-map (x ∷ xs) f) lt))) (all k x (subst (λ n. k < n) (length-map (x ∷ xs) f) lt)))

all_front : {X : Type 0} (P : X → Type 0) (xs ys : List X) → All P (xs ++ ys) → All P xs
all_front P xs ys all = λ k d lt. subst P (get_or_append_left xs ys d k lt) (all k d (let sum : length (xs ++ ys) ≡ length xs + length ys = length-append xs ys in omega arith))

all_back : {X : Type 0} (P : X → Type 0) (xs ys : List X) → All P (xs ++ ys) → All P ys
all_back P xs ys all = λ k d lt. subst P (get_or-append-add xs ys k d) (all (length xs + k) d (let sum : length (xs ++ ys) ≡ length xs + length ys = length-append xs ys in omega arith))

-- what holds of all pieces holds of each
flat_each : {X Y : Type 0} (P : Y → Type 0) (f : X → List Y) (xs : List X) → All P (flat_map f xs) → All (λ x. All P (f x)) xs
flat_each P f [] all = All-nil (λ x. All P (f x))
flat_each P f (x ∷ xs) all = All-cons (λ y. All P (f y)) x xs (all_front P (f x) (flat_map f xs) all) (flat_each P f xs (all_back P (f x) (flat_map f xs) all))

-- ENTRIES AND THEIR UNITS

spots_there : (there : ℕ → Bool) (n : Numbering) (spots : List Spot) → All (λ u. there u ≡ true) (flat_map (units_of n) spots) → position (is_missing there) (map (span_of n) spots) ≡ None
spots_there there n spots all = none_mapped (is_missing there) (span_of n) spots (λ k d lt. list_any_none (λ u. not (there u)) (units_of n (get_or spots k d)) (λ j e less. not_from_true (there (get_or (units_of n (get_or spots k d)) j e)) (flat_each (λ u. there u ≡ true) (units_of n) spots all k d lt j e less)))

-- what holds of all numbered writes holds of the units of each entry
each_write : (n : Numbering) (P : Bool → ℕ → Type 0) (writes : List (Write Spot)) → All (λ w. P w.fresh w.what) (flat_map (writes_of n) writes) → All (λ w. All (λ u. P w.fresh u) (units_of n w.what)) writes
each_write n P writes all = λ k d lt. λ j e less.
    let write = get_or writes k d in
    let us = units_of n write.what in
    subst (λ w. P w.fresh w.what) (get_or-map (write_each write.fresh) us j e (write_each write.fresh e) less) (flat_each (λ w. P w.fresh w.what) (writes_of n) writes all k d lt j (write_each write.fresh e) (subst (λ m. j < m) (sym (length-map us (write_each write.fresh))) less))

fresh_none : (fresh : Bool) (test : ℕ → Bool) (us : List ℕ) → All (λ u. fresh ≡ true → test u ≡ false) us → (fresh && list_any test us) ≡ false
fresh_none true test us all = list_any_none test us (λ k d lt. all k d lt refl)
fresh_none false test us all = refl

stale_none : (fresh : Bool) (test : ℕ → Bool) (us : List ℕ) → All (λ u. fresh ≡ false → test u ≡ false) us → (not fresh && list_any test us) ≡ false
stale_none true test us all = refl
stale_none false test us all = list_any_none test us (λ k d lt. all k d lt refl)

-- OPERATIONS

family_got : (queues : List QueueDecl) (q : ℕ) → q < length queues → slice_get (map (λ d. d.family) queues) q ≡ Some (option_map_or (λ d. d.family) (slice_get queues q) Graphics)
family_got [] q lt = absurd (omega arith)
family_got (d ∷ queues) zero lt = refl
family_got (d ∷ queues) (suc q) lt = family_got queues q (omega arith)

or_true : (a b c : Bool) → (a || c) ≡ true → b ≡ true → (a || (b && c)) ≡ true
or_true true b c e f = refl
or_true false true c e f = e
or_true false false c e f = absurd cc

module _ (pass : NumberedPass) (p k : ℕ) (op : Op ℕ) (sources : All (λ unit. (writes_it pass unit || reads_it pass unit) ≡ true) (sources_of op)) (destination : writes_it pass (destination_of op) ≡ true) where
  count : length (operands_of op) ≡ length (sources_of op) + 1
  count = length-append (sources_of op) (destination_of op ∷ [])

  abbrev is_declared : ℕ → ℕ → Bool
  is_declared j unit = writes_it pass unit || (nat_lt (suc j) (length (operands_of op)) && reads_it pass unit)

  declared_at : (j : ℕ) (d : ℕ) → j < length (operands_of op) → is_declared j (get_or (operands_of op) j d) ≡ true
  declared_at j d lt = ⊎_elim (λ (e : nat_lt j (length (sources_of op)) ≡ true). source (ltb-true j (length (sources_of op)) e)) (λ (e : nat_lt j (length (sources_of op)) ≡ false). last (let le : length (sources_of op) ≤ j = ltb-false j (length (sources_of op)) e in omega (arith, count, le))) (cases_Bool (nat_lt j (length (sources_of op))))
    where
      source : j < length (sources_of op) → is_declared j (get_or (operands_of op) j d) ≡ true
      source less =
          let unit = get_or (sources_of op) j d in
          subst (λ u. is_declared j u ≡ true) (sym (get_or_append_left (sources_of op) (destination_of op ∷ []) d j less)) (or_true (writes_it pass unit) (nat_lt (suc j) (length (operands_of op))) (reads_it pass unit) (sources j d less) (lt-ltb (suc j) (length (operands_of op)) (omega (arith, count))))

      last : j ≡ length (sources_of op) + 0 → is_declared j (get_or (operands_of op) j d) ≡ true
      last is =
          let here : get_or (operands_of op) j d ≡ destination_of op = ap (λ i. get_or (operands_of op) i d) is ∙ get_or-append-add (sources_of op) (destination_of op ∷ []) 0 d in
          subst (λ u. is_declared j u ≡ true) (sym here) (or_left (writes_it pass (destination_of op)) (nat_lt (suc j) (length (operands_of op)) && reads_it pass (destination_of op)) destination)

  all_declared : undeclared_operand pass p k op ≡ None
  all_declared = none_in (undeclared_at pass p k op) (operands_of op) (λ j d lt. passes_test (is_declared j (get_or (operands_of op) j d)) (at.Operand p k (member_at op j)) (declared_at j d lt))

-- ALL RULES

module _ (frame : Frame) (named : name_broken frame ≡ None) (G : IsValid (numbered frame)) where
  abbrev n : Numbering
  n = numbering frame

  abbrev shapes : List Shape
  shapes = shapes_of frame

  abbrev uses : List Uses
  uses = all_uses frame

  -- the good numbered pass of a declared one
  pass_good : (p : ℕ) (d : Pass) → p < length frame.passes → IsValidPass (numbered frame) (take p (numbered frame).passes) (numbered_pass frame n (get_or frame.passes p d))
  pass_good p d lt = subst (IsValidPass (numbered frame) (take p (numbered frame).passes)) (get_or-map (numbered_pass frame n) frame.passes p d (numbered_pass frame n d) lt) (G.passes_good p (numbered_pass frame n d) (subst (λ m. p < m) (sym (length-map frame.passes (numbered_pass frame n))) lt))

  queue_there : (p : ℕ) (d : Pass) → p < length frame.passes → (numbered_pass frame n (get_or frame.passes p d)).queue < length frame.queues
  queue_there p d lt = subst (λ m. (numbered_pass frame n (get_or frame.passes p d)).queue < m) (length-map frame.queues (λ q. q.family)) (subst (λ x. x.queue < length (numbered frame).queues) (get_or-map (numbered_pass frame n) frame.passes p d (numbered_pass frame n d) lt) (G.within p (numbered_pass frame n d) (subst (λ m. p < m) (sym (length-map frame.passes (numbered_pass frame n))) lt)).queue)

  -- a rule that no pass breaks
  no_pass : (rule : Rule) → ((p : ℕ) (d : Pass) → p < length frame.passes → use_at rule frame shapes p (uses_of frame n (get_or frame.passes p d)) ≡ None) → first_use rule frame shapes uses ≡ None
  no_pass rule all = none_over (use_at rule frame shapes) (uses_of frame n) frame.passes all

  module _ (p : ℕ) (d : Pass) (lt : p < length frame.passes) where
    abbrev pass : Pass
    pass = get_or frame.passes p d

    abbrev here : NumberedPass
    here = numbered_pass frame n pass

    good : IsValidPass (numbered frame) (take p (numbered frame).passes) here
    good = pass_good p d lt

    abbrev there : ℕ → Bool
    there = is_there (imports_of frame) (take p uses)

    runs_all : use_at rules.Runs frame shapes p (uses_of frame n pass) ≡ None
    runs_all = ap (option_map (λ k. at.Op p k)) (none_found (λ op. not (runs op (family_of frame here.queue))) here.ops (λ k e less. not_from_true (runs (get_or here.ops k e) (family_of frame here.queue)) ((good.ops_good k e less).on_queue (family_of frame here.queue) (family_got frame.queues here.queue (queue_there p d lt)))))

    declared_all : use_at rules.Declared frame shapes p (uses_of frame n pass) ≡ None
    declared_all = none_in (undeclared_operand here p) here.ops (λ k e less. all_declared here p k (get_or here.ops k e) (good.ops_good k e less).declared_sources (good.ops_good k e less).declared_destination)

    whole_all : use_at rules.Whole frame shapes p (uses_of frame n pass) ≡ None
    whole_all = none_over (not_whole_at shapes here.ops p) (stored_of n) pass.writes (λ k e less. stays_out ((get_or pass.writes k e).fresh && is_partial shapes here.ops (span_of n (get_or pass.writes k e).what)) (at.Write p k) (fresh_none (get_or pass.writes k e).fresh (λ u. not (starts_whole shapes here.ops u)) (units_of n (get_or pass.writes k e).what) (λ j f small. λ new. not_from_true (starts_whole shapes here.ops (get_or (units_of n (get_or pass.writes k e).what) j f)) (each_write n (λ fresh u. fresh ≡ true → starts_whole shapes here.ops u ≡ true) pass.writes good.new_whole k e less j f small new))))

    fits_all : use_at rules.Fits frame shapes p (uses_of frame n pass) ≡ None
    fits_all = none_in (misfit_at shapes p) here.ops (λ k e less. passes_test (fits (mapped (shape_at shapes) (get_or here.ops k e))) (at.Op p k) (good.ops_good k e less).fitting)

    apart_all : use_at rules.InPlace frame shapes p (uses_of frame n pass) ≡ None
    apart_all = ap (option_map (λ k. at.Operand p k Dst)) (none_found in_place here.ops (λ k e less. (good.ops_good k e less).not_in_place))

    unread_all : use_at rules.ReadNew frame shapes p (uses_of frame n pass) ≡ None
    unread_all = ap (option_map (λ j. at.Write p j)) (none_mapped (λ w. w.fresh && list_any (reads_it here) (units_in w.units)) (stored_of n) pass.writes (λ k e less. fresh_none (get_or pass.writes k e).fresh (reads_it here) (units_of n (get_or pass.writes k e).what) (each_write n (λ fresh u. fresh ≡ true → reads_it here u ≡ false) pass.writes good.new_unread k e less)))

    written_all : unwritten_at (imports_of frame) uses p (uses_of frame n pass) ≡ None
    written_all = both_none (option_map (λ k. at.Read p k) (position (is_missing there) (map (span_of n) pass.reads))) (option_map (λ j. at.Write p j) (position (λ w. not w.fresh && is_missing there w.units) (map (stored_of n) pass.writes)))
        (ap (option_map (λ k. at.Read p k)) (spots_there there n pass.reads (λ k e less. there_before frame p (get_or here.reads k e) ∙ good.reads_there k e less)))
        (ap (option_map (λ j. at.Write p j)) (none_mapped (λ w. not w.fresh && is_missing there w.units) (stored_of n) pass.writes (λ k e less. stale_none (get_or pass.writes k e).fresh (λ u. not (there u)) (units_of n (get_or pass.writes k e).what) (λ j f small. λ stale.
        let unit = get_or (units_of n (get_or pass.writes k e).what) j f in
        not_from_true (there unit) (there_before frame p unit ∙ each_write n (λ fresh u. fresh ≡ false → has_contents (units frame) (take p (numbered frame).passes) u ≡ true) pass.writes good.changes_there k e less j f small stale)))))

  imports_all : misfit_import frame.resources ≡ None
  imports_all = ap (option_map (λ i. at.Import i)) (none_found (λ r. not (import_fits r.shape r.import)) frame.resources (λ k d lt. not_from_true (import_fits (get_or frame.resources k d).shape (get_or frame.resources k d).import) (first_unit (get_or frame.resources k d) (some_layers frame (limits_none frame named) k d lt) (flat_each (λ u. import_fits u.shape u.imported ≡ true) units_from frame.resources G.imports_fit k d lt))))
    where
      first_of : (r : Resource) (m : ℕ) → 0 < m → All (λ u. import_fits u.shape u.imported ≡ true) (replicate m (unit_from r)) → import_fits r.shape r.import ≡ true
      first_of r zero some all = absurd (omega arith)
      first_of r (suc m) some all = all 0 (unit_from r) (omega arith)

      first_unit : (r : Resource) → 0 < r.layers → All (λ u. import_fits u.shape u.imported ≡ true) (units_from r) → import_fits r.shape r.import ≡ true
      first_unit r some all = first_of r r.layers some all

  written_everywhere : unwritten (imports_of frame) uses (export_units frame) ≡ None
  written_everywhere = both_none (first_in (unwritten_at (imports_of frame) uses) 0 uses) (option_map (λ i. at.Export i) (position (is_missing (is_there (imports_of frame) uses)) (export_units frame)))
      (none_over (unwritten_at (imports_of frame) uses) (uses_of frame n) frame.passes written_all)
      (ap (option_map (λ i. at.Export i)) (spots_there (is_there (imports_of frame) uses) n frame.exports (λ k e less. there_same frame (get_or (numbered frame).exports k e) frame.passes ∙ G.exports_there k e less)))

  uses_none : use_broken frame shapes (imports_of frame) uses (export_units frame) ≡ None
  uses_none =
      ap₂ option_or (ap (option_map (of_rule rules.Runs)) (no_pass rules.Runs runs_all))
      (ap₂ option_or (ap (option_map (of_rule rules.Declared)) (no_pass rules.Declared declared_all))
      (ap₂ option_or (ap (option_map (of_rule rules.Whole)) (no_pass rules.Whole whole_all))
      (ap₂ option_or (ap (option_map (of_rule rules.Unwritten)) written_everywhere)
      (ap₂ option_or (ap₂ option_or (ap (option_map (of_rule rules.Fits)) imports_all) (ap (option_map (of_rule rules.Fits)) (no_pass rules.Fits fits_all)))
      (ap₂ option_or (ap (option_map (of_rule rules.InPlace)) (no_pass rules.InPlace apart_all))
      (ap (option_map (of_rule rules.ReadNew)) (no_pass rules.ReadNew unread_all)))))))

  none_broken : first_broken frame ≡ None
  none_broken = ap₂ option_or named uses_none

  pub no_fault : first_fault frame ≡ None
  no_fault = ap (option_map fault_of) none_broken
