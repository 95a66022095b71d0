-- Each pass of a generated frame is good.
use Rattle.std.proofs.Common.{◌≡◌, ◌≢◌, ℕ, zero, suc, ◌/◌, ◌%◌, ◌==◌, ◌<◌, ◌&&◌, ◌||◌, Bool, true, false, List, [], ◌∷◌, map, get_or, slice_get, slice_index_or, replicate, Some, None, cond, if◌then◌else◌, refl, sym, ap, ap₂, ◌∙◌, subst, arith, eq-eqb}
use Rattle.std.specs.List.{All, list_any}
use Rattle.std.specs.Option.{option_map_or}
use Rattle.std.proofs.lemmas.Bool.{ne_eqb, eqb-true, or_left}
use Rattle.std.proofs.lemmas.List.Elements.{All-cons, All-nil}
use Rattle.std.proofs.lemmas.List.Folds.{list_any_none, list_any-append}
use Rattle.base.proofs.Booleans.{clash, or_true}
use Rattle.base.proofs.Lists.{one}
use Rattle.base.specs.Fits.{fits}
use Rattle.base.specs.InPlace.{in_place}
use Rattle.base.specs.Operands.{sources_of, destination_of, operands_of, mapped, touches}
use Rattle.base.specs.Runs.{has_kernels, runs}
use Rattle.base.specs.Shapes.{shape_at}
use Rattle.base.specs.Wholes.{is_whole}
use Rattle.base.specs.declared.op.Op.{Op}
use Rattle.base.specs.declared.shape.Family.{Family}
use Rattle.base.specs.declared.shape.Family.TheVariants.{Graphics, Compute, Transfer}
use Rattle.base.specs.declared.shape.Shape.{Shape}
use Rattle.base.specs.declared.shape.Shape.TheVariants.{Buffer, Image}
use Rattle.base.specs.declared.shape.Texel.TheVariants.{R32}
use Rattle.frame.specs.Valid.{IsValidOp, IsValidPass, has_contents, shapes_in}
use Rattle.frame.specs.Numbered.{NumberedFrame, IsWithin}
use Rattle.frame.specs.Uses.{reads_it, writes_it, stores_whole, starts_whole}
use Rattle.frame.specs.declared.numbered.NumberedPass.{NumberedPass}
use Rattle.frame_gen.specs.Internal.Numbers.{image, queue_number_by, numbered_by}
use Rattle.frame_gen.specs.Operations.{op_by, reads_by}
use Rattle.frame_gen.proofs.ByKind.{by_kind, op_mapped, operands_all, reads_all}

-- SMALL FACTS

abbrev picture : Shape
picture = Image 64 64 R32

shape_of_image : (n u : ℕ) → u < n → slice_index_or (map (λ x. x.shape) (replicate n image)) u (Buffer 0) ≡ picture
shape_of_image zero u lt = absurd (omega (arith, lt))
shape_of_image (suc n) zero lt = refl
shape_of_image (suc n) (suc u) lt = shape_of_image n u (omega (arith, lt))

in_front : (x : ℕ) (xs : List ℕ) → list_any (λ y. y == x) (x ∷ xs) ≡ true
in_front x xs = or_left (x == x) (list_any (λ y. y == x) xs) (eq-eqb x x refl)

at_second : (x y : ℕ) (xs : List ℕ) → list_any (λ z. z == x) (y ∷ x ∷ xs) ≡ true
at_second x y xs = ap (λ b. (y == x) || b) (in_front x xs) ∙ or_true (y == x)

touches_own : (op : Op ℕ) → touches (destination_of op) op ≡ true
touches_own op = list_any-append (λ x. x == destination_of op) (sources_of op) (destination_of op ∷ []) ∙ ap (λ b. list_any (λ x. x == destination_of op) (sources_of op) || b) (in_front (destination_of op) []) ∙ or_true (list_any (λ x. x == destination_of op) (sources_of op))

pub goes_to : {R : Type 0} (kind : ℕ) → kind < 5 → (w : ℕ) (a b dst : R) → destination_of (op_by kind w a b dst) ≡ dst
goes_to {R = R} kind lt = by_kind (λ k. (w : ℕ) (a b dst : R) → destination_of (op_by k w a b dst) ≡ dst) (λ w a b dst. refl) (λ w a b dst. refl) (λ w a b dst. refl) (λ w a b dst. refl) (λ w a b dst. refl) kind lt

-- of a kind over pictures alone
fits_pictures : (kind : ℕ) → kind < 5 → (w : ℕ) → fits (op_by kind w picture picture picture) ≡ true
fits_pictures kind lt = by_kind (λ k. (w : ℕ) → fits (op_by k w picture picture picture) ≡ true) (λ w. refl) (λ w. refl) (λ w. refl) (λ w. refl) (λ w. refl) kind lt

whole_pictures : (kind : ℕ) → kind < 5 → (w : ℕ) → is_whole (op_by kind w picture picture picture) ≡ true
whole_pictures kind lt = by_kind (λ k. (w : ℕ) → is_whole (op_by k w picture picture picture) ≡ true) (λ w. refl) (λ w. refl) (λ w. refl) (λ w. refl) (λ w. refl) kind lt

-- what holds of a and b holds of the sources
sources_all : (P : ℕ → Type 0) (kind : ℕ) → kind < 5 → (w a b dst : ℕ) → (kind ≢ 0 → P a) → (kind ≢ 0 → P b) → All P (sources_of (op_by kind w a b dst))
sources_all P kind lt = by_kind (λ k. (w a b dst : ℕ) → (k ≢ 0 → P a) → (k ≢ 0 → P b) → All P (sources_of (op_by k w a b dst)))
    (λ w a b dst p q. All-nil P)
    (λ w a b dst p q. one P a (p (λ e. omega (arith, e))))
    (λ w a b dst p q. All-cons P a (b ∷ []) (p (λ e. omega (arith, e))) (one P b (q (λ e. omega (arith, e)))))
    (λ w a b dst p q. one P a (p (λ e. omega (arith, e))))
    (λ w a b dst p q. one P a (p (λ e. omega (arith, e))))
    kind lt

abbrev reads_in : List ℕ → ℕ → Bool
reads_in reads u = list_any (λ r. r == u) reads

-- each source is read
sources_read : (kind : ℕ) → kind < 5 → (w a b dst : ℕ) → All (λ u. reads_in (reads_by kind a b) u ≡ true) (sources_of (op_by kind w a b dst))
sources_read kind lt = by_kind (λ k. (w a b dst : ℕ) → All (λ u. reads_in (reads_by k a b) u ≡ true) (sources_of (op_by k w a b dst)))
    (λ w a b dst. All-nil (λ u. reads_in (reads_by 0 a b) u ≡ true))
    (λ w a b dst. one (λ u. reads_in (reads_by 1 a b) u ≡ true) a (in_front a []))
    (λ w a b dst. by_test a b (a == b) refl)
    (λ w a b dst. one (λ u. reads_in (reads_by 3 a b) u ≡ true) a (in_front a []))
    (λ w a b dst. one (λ u. reads_in (reads_by 4 a b) u ≡ true) a (in_front a []))
    kind lt
  where
    by_test : (a b : ℕ) (t : Bool) → (a == b) ≡ t → All (λ u. reads_in (if t then a ∷ [] else a ∷ b ∷ []) u ≡ true) (a ∷ b ∷ [])
    by_test a b true e = All-cons (λ u. reads_in (a ∷ []) u ≡ true) a (b ∷ []) (in_front a []) (one (λ u. reads_in (a ∷ []) u ≡ true) b (subst (λ u. reads_in (a ∷ []) u ≡ true) (eqb-true a b e) (in_front a [])))
    by_test a b false e = All-cons (λ u. reads_in (a ∷ b ∷ []) u ≡ true) a (b ∷ []) (in_front a (b ∷ [])) (one (λ u. reads_in (a ∷ b ∷ []) u ≡ true) b (at_second b a []))

abbrev families : List Family
families = Graphics ∷ Compute ∷ Transfer ∷ []

-- the queue of a kind runs it
on_queue : (kind : ℕ) → kind < 5 → (w a b dst : ℕ) (family : Family) → slice_get families (queue_number_by kind w) ≡ Some family → runs (op_by kind w a b dst) family ≡ true
on_queue kind lt = by_kind (λ k. (w a b dst : ℕ) (family : Family) → slice_get families (queue_number_by k w) ≡ Some family → runs (op_by k w a b dst) family ≡ true)
    (λ w a b dst family is. with_kernels (w / 125 % 2 == 0) family is)
    (λ w a b dst family is. with_kernels (w / 125 % 2 == 0) family is)
    (λ w a b dst family is. with_kernels (w / 125 % 2 == 0) family is)
    (λ w a b dst family is. with_kernels (w / 125 % 2 == 0) family is)
    (λ w a b dst family is. refl)
    kind lt
  where
    with_kernels : (t : Bool) (family : Family) → slice_get families (if t then 0 else 1) ≡ Some family → has_kernels family ≡ true
    with_kernels true Graphics is = refl
    with_kernels true Compute is = refl
    with_kernels true Transfer is = absurd cc
    with_kernels false Graphics is = refl
    with_kernels false Compute is = refl
    with_kernels false Transfer is = absurd cc

queue_there : (kind w : ℕ) → queue_number_by kind w < 3
queue_there kind w = by_tests (kind == 4) (w / 125 % 2 == 0)
  where
    by_tests : (t u : Bool) → (if t then 2 else (if u then 0 else 1)) < 3
    by_tests true u = omega arith
    by_tests false true = omega arith
    by_tests false false = omega arith

-- A PASS

module _ (frame : NumberedFrame) (n : ℕ) (units : frame.units ≡ replicate n image) (queues : frame.queues ≡ families) where
  shape_is : (u : ℕ) → u < n → shape_at (shapes_in frame) u ≡ picture
  shape_is u lt = ap (λ us. slice_index_or (map (λ x. x.shape) us) u (Buffer 0)) units ∙ shape_of_image n u lt

  module _ (kind : ℕ) (five : kind < 5) (w a b i : ℕ) (here : i < n) (a_below : kind ≢ 0 → a < i) (b_below : kind ≢ 0 → b < i) (a_there : a < n) (b_there : b < n) where
    abbrev pass : NumberedPass
    pass = numbered_by kind w a b i

    abbrev op : Op ℕ
    op = op_by kind w a b i

    shaped : mapped (shape_at (shapes_in frame)) op ≡ op_by kind w picture picture picture
    shaped =
        op_mapped (shape_at (shapes_in frame)) kind w a b i
        ∙ ap (λ x. op_by kind w x (shape_at (shapes_in frame) b) (shape_at (shapes_in frame) i)) (shape_is a a_there)
        ∙ ap₂ (λ x y. op_by kind w picture x y) (shape_is b b_there) (shape_is i here)

    own : destination_of op ≡ i
    own = goes_to kind five w a b i

    touched : touches i op ≡ true
    touched = subst (λ u. touches u op ≡ true) own (touches_own op)

    stored : stores_whole (shapes_in frame) i op ≡ true
    stored = ap₂ (λ s t. s && t) (ap (λ u. u == i) own ∙ eq-eqb i i refl) (ap is_whole shaped ∙ whole_pictures kind five w)

    whole : starts_whole (shapes_in frame) (op ∷ []) i ≡ true
    whole = ap (λ t. option_map_or (stores_whole (shapes_in frame) i) (cond t (Some op) None) false) touched ∙ stored

    below_reads : All (λ u. u < i) (reads_by kind a b)
    below_reads = reads_all (λ u. u < i) kind five a b a_below b_below

    below_sources : All (λ u. u < i) (sources_of op)
    below_sources = sources_all (λ u. u < i) kind five w a b i a_below b_below

    unread : reads_it pass i ≡ false
    unread = list_any_none (λ r. r == i) (reads_by kind a b) (λ k d lt. let less = below_reads k d lt in ne_eqb (get_or (reads_by kind a b) k d) i (λ e. omega (arith, less, e)))

    not_in_place : in_place op ≡ false
    not_in_place = list_any_none (λ s. s == destination_of op) (sources_of op) (λ k d lt. let less = below_sources k d lt in ne_eqb (get_or (sources_of op) k d) (destination_of op) (λ e. omega (arith, less, e, own)))

    written : writes_it pass i ≡ true
    written = or_left (i == i) false (eq-eqb i i refl)

    op_good : IsValidOp frame pass op
    op_good = record {
      on_queue = λ family is. on_queue kind five w a b i family (subst (λ qs. slice_get qs (queue_number_by kind w) ≡ Some family) queues is);
      declared_sources = λ k d lt. ap (λ t. writes_it pass (get_or (sources_of op) k d) || t) (sources_read kind five w a b i k d lt) ∙ or_true (writes_it pass (get_or (sources_of op) k d));
      declared_destination = subst (λ u. writes_it pass u ≡ true) (sym own) written;
      fitting = ap fits shaped ∙ fits_pictures kind five w;
      not_in_place = not_in_place;
    }

    pub pass_good : (before : List NumberedPass) → ((u : ℕ) → u < i → has_contents frame.units before u ≡ true) → IsValidPass frame before pass
    pass_good before there = record {
      reads_there = λ k d lt. there (get_or (reads_by kind a b) k d) (below_reads k d lt);
      changes_there = one (λ x. x.fresh ≡ false → has_contents frame.units before x.what ≡ true) (record { what = i; fresh = true }) (λ e. absurd (clash (sym e)));
      new_whole = one (λ x. x.fresh ≡ true → starts_whole (shapes_in frame) (op ∷ []) x.what ≡ true) (record { what = i; fresh = true }) (λ e. whole);
      new_unread = one (λ x. x.fresh ≡ true → reads_it pass x.what ≡ false) (record { what = i; fresh = true }) (λ e. unread);
      ops_good = one (IsValidOp frame pass) op op_good;
    }

    pub pass_within : IsWithin 3 n pass
    pass_within = record {
      queue = queue_there kind w;
      reads = reads_all (λ u. u < n) kind five a b (λ e. a_there) (λ e. b_there);
      writes = one (λ x. x.what < n) (record { what = i; fresh = true }) here;
      ops = one (λ o. All (λ u. u < n) (operands_of o)) op (operands_all (λ u. u < n) kind five w a b i a_there b_there here);
    }
