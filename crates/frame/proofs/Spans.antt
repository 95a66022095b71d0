-- The units of entries, one after another.
use Rattle.std.proofs.Common.{◌≡◌, ℕ, suc, ◌+◌, ◌-◌, ◌<◌, ◌≤◌, ◌++◌, List, [], ◌∷◌, length, map, get_or, take, Bool, refl, sym, ap, ◌∙◌, append_assoc, append-nil, arith}
use Rattle.std.specs.List.{flat_map, range_with_len}
use Rattle.std.proofs.lemmas.List.Folds.{flat_map-map}
use Rattle.frame.proofs.Flat.{flat_on}
use Rattle.frame.specs.Numbered.{write_each, stored_of, unit_writes, writes_of}
use Rattle.frame.specs.Units.{Numbering, units_in, span_of, units_of}
use Rattle.frame.specs.declared.frame.Spot.{Spot}
use Rattle.frame.specs.declared.frame.Write.{Write}
use Rattle.frame.specs.declared.numbered.Span.{Span}
use Rattle.frame.specs.declared.numbered.Stored.{Stored}

-- ONE UNIT MORE OF A SPAN

first_unit : (unit end : ℕ) → unit < end → range_with_len unit (end - unit) ≡ unit ∷ range_with_len (unit + 1) (end - (unit + 1))
first_unit unit end lt = let size : end - unit ≡ suc (end - (unit + 1)) = omega arith in ap (range_with_len unit) size

no_unit : (unit end : ℕ) → end ≤ unit → range_with_len unit (end - unit) ≡ []
no_unit unit end le = let size : end - unit ≡ 0 = omega arith in ap (range_with_len unit) size

pub unit_on : (units units' total : List ℕ) (unit end : ℕ) → unit < end → units' ≡ units ++ unit ∷ [] → units ++ range_with_len unit (end - unit) ≡ total → units' ++ range_with_len (unit + 1) (end - (unit + 1)) ≡ total
unit_on units units' total unit end lt grows so_far =
    let rest = range_with_len (unit + 1) (end - (unit + 1)) in
    ap (λ xs. xs ++ rest) grows ∙ append_assoc units (unit ∷ []) rest ∙ ap (λ xs. units ++ xs) (sym (first_unit unit end lt)) ∙ so_far

pub units_end : (units total : List ℕ) (unit end : ℕ) → end ≤ unit → units ++ range_with_len unit (end - unit) ≡ total → units ≡ total
units_end units total unit end le so_far = sym (append-nil units) ∙ ap (λ xs. units ++ xs) (sym (no_unit unit end le)) ∙ so_far

pub write_on : (fresh : Bool) (writes writes' total : List (Write ℕ)) (unit end : ℕ) → unit < end → writes' ≡ writes ++ write_each fresh unit ∷ [] → writes ++ map (write_each fresh) (range_with_len unit (end - unit)) ≡ total → writes' ++ map (write_each fresh) (range_with_len (unit + 1) (end - (unit + 1))) ≡ total
write_on fresh writes writes' total unit end lt grows so_far =
    let rest = map (write_each fresh) (range_with_len (unit + 1) (end - (unit + 1))) in
    ap (λ xs. xs ++ rest) grows ∙ append_assoc writes (write_each fresh unit ∷ []) rest ∙ ap (λ xs. writes ++ map (write_each fresh) xs) (sym (first_unit unit end lt)) ∙ so_far

pub writes_end : (fresh : Bool) (writes total : List (Write ℕ)) (unit end : ℕ) → end ≤ unit → writes ++ map (write_each fresh) (range_with_len unit (end - unit)) ≡ total → writes ≡ total
writes_end fresh writes total unit end le so_far = sym (append-nil writes) ∙ ap (λ xs. writes ++ map (write_each fresh) xs) (sym (no_unit unit end le)) ∙ so_far

-- one entry more
pub span_on : {X Y : Type 0} (f : X → List Y) (xs : List X) (i : ℕ) (x : X) (list list' : List Y) → i < length xs → x ≡ get_or xs i x → list' ≡ list ++ f x → list ≡ flat_map f (take i xs) → list' ≡ flat_map f (take (i + 1) xs)
span_on f xs i x list list' lt is grows so_far = flat_on f xs i x list (f x) list' lt is refl grows so_far

-- ALL UNITS OF ENTRIES

pub reads_are : (n : Numbering) (spots : List Spot) (spans : List Span) → spans ≡ map (span_of n) spots → flat_map units_in spans ≡ flat_map (units_of n) spots
reads_are n spots spans is = ap (flat_map units_in) is ∙ flat_map-map units_in (span_of n) spots

pub writes_are : (n : Numbering) (writes : List (Write Spot)) (entries : List Stored) → entries ≡ map (stored_of n) writes → flat_map unit_writes entries ≡ flat_map (writes_of n) writes
writes_are n writes entries is = ap (flat_map unit_writes) is ∙ flat_map-map unit_writes (stored_of n) writes
