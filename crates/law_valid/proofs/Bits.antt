-- Sets of bits inside one another, and what unions of stages support.
use Rattle.std.proofs.Common.{◌≡◌, ◌≤◌, ◌==◌, not, ℕ, zero, Bool, true, false, List, [], ◌∷◌, if◌then◌else◌, get_or, suc, bit_and, bit_or, refl, sym, ap, ◌∙◌, subst, ⊎_elim, eq-eqb, eqb-true, arith}
use Rattle.std.specs.Int.{bit_at}
use Rattle.std.specs.List.{All}
use Rattle.std.proofs.lemmas.Bool.{cases_Bool}
use Rattle.std.proofs.lemmas.List.Elements.{All-head, All-tail}
use Rattle.std.proofs.lemmas.Nat.Bits.{bit_at_and, bit_at_or, bit_at-zero, same_from_bits}
use Rattle.base.proofs.Booleans.{clash}
use Rattle.vk.specs.Accesses.{Access, accesses}
use Rattle.vk.specs.Families.{on_family, stages_of}
use Rattle.vk.specs.Sets.{has, meets, union_from, union_over}
use Rattle.vk.specs.Stages.{Stage, stages, stage_part, expand}
use Rattle.vk.specs.Support.{supported_part, supported, supports}

-- each bit of a is one of b
abbrev pub Inside : ℕ → ℕ → Type 0
Inside a b = (i : ℕ) → bit_at a i ≤ bit_at b i

pub inside_self : (a : ℕ) → Inside a a
inside_self a i = omega arith

pub inside_then : (a b c : ℕ) → Inside a b → Inside b c → Inside a c
inside_then a b c h k i = omega (arith, h i, k i)

pub none_inside : (a : ℕ) → Inside 0 a
none_inside a i = omega (arith, bit_at-zero i)

pub inside_left : (a b : ℕ) → Inside a (bit_or a b)
inside_left a b i = omega (arith, bit_at_or a b i)

pub inside_right : (a b : ℕ) → Inside b (bit_or a b)
inside_right a b i = omega (arith, bit_at_or a b i)

inside_union : (a b c : ℕ) → Inside a c → Inside b c → Inside (bit_or a b) c
inside_union a b c h k i = omega (arith, h i, k i, bit_at_or a b i)

pub inside_both : (a b c d : ℕ) → Inside a b → Inside c d → Inside (bit_or a c) (bit_or b d)
inside_both a b c d h k i = omega (arith, h i, k i, bit_at_or a c i, bit_at_or b d i)

pub inside_from_has : (set bits : ℕ) → has set bits ≡ true → Inside bits set
inside_from_has set bits e i =
    let same : bit_at (bit_and set bits) i ≡ bit_at bits i = ap (λ n. bit_at n i) (eqb-true (bit_and set bits) bits e) in
    omega (arith, same, bit_at_and set bits i)

pub has_from_inside : (set bits : ℕ) → Inside bits set → has set bits ≡ true
has_from_inside set bits h = eq-eqb (bit_and set bits) bits (same_from_bits (bit_and set bits) bits (λ i. omega (arith, h i, bit_at_and set bits i)))

pub empty_inside : (a b : ℕ) → Inside a b → b ≡ 0 → a ≡ 0
empty_inside a b h e = same_from_bits a 0 (λ i. let none : bit_at b i ≡ bit_at 0 i = ap (λ n. bit_at n i) e in omega (arith, none, h i, bit_at-zero i))

-- a larger set meets more
meets_more : (a b c : ℕ) → Inside a b → meets a c ≡ true → meets b c ≡ true
meets_more a b c h m = ⊎_elim
    (λ e. absurd (clash (sym (ap not (eq-eqb (bit_and a c) 0 (none (eqb-true (bit_and b c) 0 e)))) ∙ m)))
    (λ e. ap not e)
    (cases_Bool (bit_and b c == 0))
  where
    less : Inside (bit_and a c) (bit_and b c)
    less i = omega (arith, h i, bit_at_and a c i, bit_at_and b c i)

    none : bit_and b c ≡ 0 → bit_and a c ≡ 0
    none e = empty_inside (bit_and a c) (bit_and b c) less e

-- UNIONS OVER ROWS

pub from_more : {Row : Type 0} (f g : Row → ℕ) (a b : ℕ) (rows : List Row) → Inside a b → ((row : Row) → Inside (f row) (g row)) → Inside (union_from a f rows) (union_from b g rows)
from_more f g a b [] h k = h
from_more f g a b (row ∷ rows) h k = from_more f g (bit_or a (f row)) (bit_or b (g row)) rows (inside_both a b (f row) (g row) h (k row)) k

pub over_more : {Row : Type 0} (f g : Row → ℕ) (rows : List Row) → ((row : Row) → Inside (f row) (g row)) → Inside (union_over f rows) (union_over g rows)
over_more f g rows k = from_more f g 0 0 rows (none_inside 0) k

from_inside : {Row : Type 0} (f : Row → ℕ) (a c : ℕ) (rows : List Row) → Inside a c → All (λ row. Inside (f row) c) rows → Inside (union_from a f rows) c
from_inside f a c [] h all = h
from_inside f a c (row ∷ rows) h all = from_inside f (bit_or a (f row)) c rows (inside_union a (f row) c h (All-head (λ r. Inside (f r) c) row rows all)) (All-tail (λ r. Inside (f r) c) row rows all)

-- what has each row has the union
pub over_inside : {Row : Type 0} (f : Row → ℕ) (c : ℕ) (rows : List Row) → All (λ row. Inside (f row) c) rows → Inside (union_over f rows) c
over_inside f c rows all = from_inside f 0 c rows (none_inside c) all

pub from_start : {Row : Type 0} (f : Row → ℕ) (a : ℕ) (rows : List Row) → Inside a (union_from a f rows)
from_start f a [] = inside_self a
from_start f a (row ∷ rows) = inside_then a (bit_or a (f row)) (union_from (bit_or a (f row)) f rows) (inside_left a (f row)) (from_start f (bit_or a (f row)) rows)

from_each : {Row : Type 0} (f : Row → ℕ) (a : ℕ) (rows : List Row) → All (λ row. Inside (f row) (union_from a f rows)) rows
from_each f a [] = λ k d lt. absurd (omega (arith, lt))
from_each f a (row ∷ rows) = each (from_each f (bit_or a (f row)) rows)
  where
    each : All (λ r. Inside (f r) (union_from (bit_or a (f row)) f rows)) rows → All (λ r. Inside (f r) (union_from (bit_or a (f row)) f rows)) (row ∷ rows)
    each rest zero d lt = inside_then (f row) (bit_or a (f row)) (union_from (bit_or a (f row)) f rows) (inside_right a (f row)) (from_start f (bit_or a (f row)) rows)
    each rest (suc k) d lt = rest k d (omega (arith, lt))

-- the union has each row
pub over_each : {Row : Type 0} (f : Row → ℕ) (rows : List Row) → All (λ row. Inside (f row) (union_over f rows)) rows
over_each f rows = from_each f 0 rows

-- SUPPORT

stage_more : (a b : ℕ) → Inside a b → (stage : Stage) → Inside (stage_part a stage) (stage_part b stage)
stage_more a b h stage = go (has a stage.bit) refl
  where
    go : (t : Bool) → has a stage.bit ≡ t → Inside (if t then stage.stands_for else 0) (stage_part b stage)
    go false e = none_inside (stage_part b stage)
    go true e = subst (λ t. Inside stage.stands_for (if t then stage.stands_for else 0)) (sym (has_from_inside b stage.bit (inside_then stage.bit a b (inside_from_has a stage.bit e) h))) (inside_self stage.stands_for)

pub expand_more : (a b : ℕ) → Inside a b → Inside (expand a) (expand b)
expand_more a b h = over_more (stage_part a) (stage_part b) stages (stage_more a b h)

access_more : (a b : ℕ) → Inside a b → (access : Access) → Inside (supported_part a access) (supported_part b access)
access_more a b h access = go (meets a access.stages) refl
  where
    go : (t : Bool) → meets a access.stages ≡ t → Inside (if t then access.bit else 0) (supported_part b access)
    go false e = none_inside (supported_part b access)
    go true e = subst (λ t. Inside access.bit (if t then access.bit else 0)) (sym (meets_more a b access.stages h e)) (inside_self access.bit)

supported_more : (a b : ℕ) → Inside a b → Inside (supported a) (supported b)
supported_more a b h = over_more (supported_part a) (supported_part b) accesses (access_more a b h)

-- more stages support more
pub supports_inside : (a b bits : ℕ) → Inside a b → supports a bits ≡ true → Inside bits (supported (expand b))
supports_inside a b bits h e = inside_then bits (supported (expand a)) (supported (expand b)) (inside_from_has (supported (expand a)) bits e) (supported_more (expand a) (expand b) (expand_more a b h))

pub supports_from : (stages bits : ℕ) → Inside bits (supported (expand stages)) → supports stages bits ≡ true
supports_from stages bits h = has_from_inside (supported (expand stages)) bits h

pub supports_none : (stages : ℕ) → supports stages 0 ≡ true
supports_none stages = supports_from stages 0 (none_inside (supported (expand stages)))

-- FAMILIES

pub on_family_union : (a b family : ℕ) → on_family a family ≡ true → on_family b family ≡ true → on_family (bit_or a b) family ≡ true
on_family_union a b family h k = has_from_inside (stages_of family) (bit_or a b) (inside_union a b (stages_of family) (inside_from_has (stages_of family) a h) (inside_from_has (stages_of family) b k))

pub on_family_over : {Row : Type 0} (f : Row → ℕ) (family : ℕ) (rows : List Row) → All (λ row. on_family (f row) family ≡ true) rows → on_family (union_over f rows) family ≡ true
on_family_over f family rows all = has_from_inside (stages_of family) (union_over f rows) (over_inside f (stages_of family) rows (λ k d lt. inside_from_has (stages_of family) (f (get_or rows k d)) (all k d lt)))
