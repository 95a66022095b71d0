-- A join pass is good.
use Rattle.std.proofs.Common.{◌≡◌, ◌≢◌, ℕ, ◌+◌, ◌<◌, ◌≤◌, ◌==◌, ◌&&◌, ◌||◌, List, [], ◌∷◌, length, map, get_or, nat_le, Bool, true, false, Some, if◌then◌else◌, refl, sym, ap, ap₂, ◌∙◌, eq-eqb, ne_eqb, arith}
use Rattle.std.specs.List.{All, AllByRecursion, list_any, find}
use Rattle.std.specs.Option.{option_map_or}
use Rattle.std.proofs.lemmas.Bool.{le-leb, or_right}
use Rattle.std.proofs.lemmas.List.Elements.{All-cons, All-map, All-nil}
use Rattle.std.proofs.lemmas.List.Folds.{list_any_at, list_any_none}
use Rattle.base.proofs.Booleans.{or_false}
use Rattle.base.specs.Fits.{fits}
use Rattle.base.specs.Operands.{mapped, touches}
use Rattle.base.specs.Shapes.{bytes_of, has_bytes, shape_at}
use Rattle.base.specs.declared.shape.Shape.{Shape}
use Rattle.base.specs.declared.shape.Shape.TheVariants.{Buffer}
use Rattle.frame.specs.Valid.{IsValidOp, IsValidPass, has_contents, renews, shapes_in}
use Rattle.frame.specs.Numbered.{NumberedFrame}
use Rattle.frame.specs.Uses.{reads_it, starts_whole, stores_whole, writes_it}
use Rattle.frame.specs.declared.numbered.NumberedPass.{NumberedPass}
use Rattle.law_window.proofs.Each.{all_of}
use Rattle.law_window.proofs.Tests.{any_mapped}
use Rattle.law_window.specs.Joins.{Carry, copy_of, join_of, joins, renewal}

-- copies from units before n to units from n on, of their size
pub record IsCarry (W : NumberedFrame) (earlier : List NumberedPass) (n : ℕ) (carry : Carry) : Type 0 where
  pub low : carry.from < n
  pub high : n ≤ carry.to
  pub there : has_contents W.units earlier carry.from ≡ true
  pub from_shape : shape_at (shapes_in W) carry.from ≡ Buffer carry.size
  pub to_shape : shape_at (shapes_in W) carry.to ≡ Buffer carry.size
  pub some : 1 ≤ carry.size

abbrev pub Different : List Carry → Type 0
Different [] = Unit {0}
Different (carry ∷ all) = AllByRecursion (λ other. carry.to ≢ other.to) all × Different all

abbrev pub carried : ℕ → List Carry → Bool
carried x all = list_any (λ carry. carry.to == x) all

pub joins_renew : (x : ℕ) (all : List Carry) → list_any (renews x) (joins all) ≡ carried x all
joins_renew x [] = refl
joins_renew x (carry ∷ all) = or_false (renews x (join_of (carry ∷ all))) ∙ any_mapped (λ w. w.fresh && w.what == x) renewal (λ c. c.to == x) (carry ∷ all) (λ c. refl)

module _ (W : NumberedFrame) (earlier : List NumberedPass) (n : ℕ) where
  abbrev shapes : List Shape
  shapes = shapes_in W

  -- THE FIRST OPERATION THAT TOUCHES A COPIED BUFFER IS ITS COPY

  stores : (carry : Carry) → IsCarry W earlier n carry → stores_whole shapes carry.to (copy_of carry) ≡ true
  stores carry C = ap₂ (λ a b. a && b) (eq-eqb carry.to carry.to refl) (eq-eqb carry.size (bytes_of (shape_at shapes carry.to)) (sym (ap bytes_of C.to_shape)))

  touched : (carry : Carry) → touches carry.to (copy_of carry) ≡ true
  touched carry = ap (λ b. (carry.from == carry.to) || (b || false)) (eq-eqb carry.to carry.to refl) ∙ right (carry.from == carry.to)
    where
      right : (b : Bool) → (b || true) ≡ true
      right true = refl
      right false = refl

  untouched : (carry other : Carry) → IsCarry W earlier n carry → IsCarry W earlier n other → carry.to ≢ other.to → touches other.to (copy_of carry) ≡ false
  untouched carry other C D apart =
      let low : (carry.from == other.to) ≡ false = ne_eqb carry.from other.to (λ e. absurd (omega (arith, e, C.low, D.high))) in
      ap₂ (λ a b. a || (b || false)) low (ne_eqb carry.to other.to apart)

  passed_by : (carry : Carry) (all others : List Carry) → IsCarry W earlier n carry → AllByRecursion (IsCarry W earlier n) others → AllByRecursion (λ other. carry.to ≢ other.to) others → AllByRecursion (λ c. starts_whole shapes (map copy_of all) c.to ≡ true) others → AllByRecursion (λ c. starts_whole shapes (copy_of carry ∷ map copy_of all) c.to ≡ true) others
  passed_by carry all [] C each apart starts = tt
  passed_by carry all (other ∷ others) C each apart starts = (
    ap (λ b. option_map_or (stores_whole shapes other.to) (if b then Some (copy_of carry) else find (touches other.to) (map copy_of all)) false) (untouched carry other C each.0 apart.0) ∙ starts.0,
    passed_by carry all others C each.1 apart.1 starts.1,
  )

  all_start : (all : List Carry) → AllByRecursion (IsCarry W earlier n) all → Different all → AllByRecursion (λ c. starts_whole shapes (map copy_of all) c.to ≡ true) all
  all_start [] each apart = tt
  all_start (carry ∷ all) each apart = (
    ap (λ b. option_map_or (stores_whole shapes carry.to) (if b then Some (copy_of carry) else find (touches carry.to) (map copy_of all)) false) (touched carry) ∙ stores carry each.0,
    passed_by carry all all each.0 each.1 apart.0 (all_start all each.1 apart.1),
  )

  -- THE PASS

  module _ (all : List Carry) (each : AllByRecursion (IsCarry W earlier n) all) (apart : Different all) where
    every : All (IsCarry W earlier n) all
    every = all_of (IsCarry W earlier n) all each

    named : (k : ℕ) (d : Carry) → k < length all → carried (get_or all k d).to all ≡ true
    named k d lt = list_any_at (λ carry. carry.to == (get_or all k d).to) all k d lt (eq-eqb (get_or all k d).to (get_or all k d).to refl)

    read : (k : ℕ) (d : Carry) → k < length all → list_any (λ carry. carry.from == (get_or all k d).from) all ≡ true
    read k d lt = list_any_at (λ carry. carry.from == (get_or all k d).from) all k d lt (eq-eqb (get_or all k d).from (get_or all k d).from refl)

    unread : (k : ℕ) (d : Carry) → k < length all → reads_it (join_of all) (get_or all k d).to ≡ false
    unread k d lt = any_mapped (λ r. r == (get_or all k d).to) (λ carry. carry.from) (λ carry. carry.from == (get_or all k d).to) all (λ carry. refl) ∙ list_any_none (λ carry. carry.from == (get_or all k d).to) all (λ j e less. ne_eqb (get_or all j e).from (get_or all k d).to (λ same. absurd (omega (arith, same, (every j e less).low, (every k d lt).high))))

    copy_fits : (carry : Carry) → IsCarry W earlier n carry → fits (mapped (shape_at shapes) (copy_of carry)) ≡ true
    copy_fits carry C =
        let whole : nat_le (0 + carry.size) carry.size ≡ true = le-leb (0 + carry.size) carry.size (omega arith) in
        let from : has_bytes (shape_at shapes carry.from) 0 carry.size ≡ true = ap (λ s. has_bytes s 0 carry.size) C.from_shape ∙ whole in
        let to : has_bytes (shape_at shapes carry.to) 0 carry.size ≡ true = ap (λ s. has_bytes s 0 carry.size) C.to_shape ∙ whole in
        ap₂ (λ a b. nat_le 1 carry.size && a && b) from to ∙ ap (λ b. b && true && true) (le-leb 1 carry.size C.some)

    good_copy : (k : ℕ) (d : Carry) → k < length all → IsValidOp W (join_of all) (copy_of (get_or all k d))
    good_copy k d lt =
        let carry = get_or all k d in
        let C = every k d lt in
        let reads : reads_it (join_of all) carry.from ≡ true = any_mapped (λ r. r == carry.from) (λ c. c.from) (λ c. c.from == carry.from) all (λ c. refl) ∙ read k d lt in
        record {
          on_queue = λ family is. refl;
          declared_sources = All-cons (λ x. (writes_it (join_of all) x || reads_it (join_of all) x) ≡ true) carry.from [] (or_right (writes_it (join_of all) carry.from) (reads_it (join_of all) carry.from) reads) (All-nil (λ x. (writes_it (join_of all) x || reads_it (join_of all) x) ≡ true));
          declared_destination = any_mapped (λ w. w.what == carry.to) renewal (λ c. c.to == carry.to) all (λ c. refl) ∙ named k d lt;
          fitting = copy_fits carry C;
          not_in_place = ap (λ b. b || false) (ne_eqb carry.from carry.to (λ e. absurd (omega (arith, e, C.low, C.high))));
        }

    pub good_join : IsValidPass W earlier (join_of all)
    good_join = record {
      reads_there = All-map (λ x. has_contents W.units earlier x ≡ true) (λ carry. carry.from) all (λ k d lt. (every k d lt).there);
      changes_there = All-map (λ w. w.fresh ≡ false → has_contents W.units earlier w.what ≡ true) renewal all (λ k d lt old. absurd (no_old old));
      new_whole = All-map (λ w. w.fresh ≡ true → starts_whole shapes (map copy_of all) w.what ≡ true) renewal all (λ k d lt new. all_of (λ c. starts_whole shapes (map copy_of all) c.to ≡ true) all (all_start all each apart) k d lt);
      new_unread = All-map (λ w. w.fresh ≡ true → reads_it (join_of all) w.what ≡ false) renewal all (λ k d lt new. unread k d lt);
      ops_good = All-map (IsValidOp W (join_of all)) copy_of all good_copy;
    }
      where
        no_old : true ≡ false → ⊥
        no_old e = cc
