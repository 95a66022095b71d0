-- What the own stages of a mask are, by which of the five single stages it stands for.
use Rattle.std.proofs.Common.{◌≡◌, ◌∙◌, ◌==◌, ◌<◌, ◌+◌, ℕ, zero, suc, Bool, true, false, not, ◌&&◌, ◌||◌, nat_lt, List, [], ◌∷◌, slice_get, Some, if◌then◌else◌, refl, subst, sym, ap, bit_and, bit_or, eqb-true, eq-eqb, arith}
use Rattle.std.specs.Int.Bits.{and_self}
use Rattle.std.specs.List.{list_all}
use Rattle.std.proofs.lemmas.Bool.{ltb-true}
use Rattle.std.proofs.lemmas.Nat.{and_assoc}
use Rattle.bitflags.specs.Sets.{without}
use Rattle.base.specs.declared.shape.Family.{Family}
use Rattle.base.specs.declared.shape.Family.TheVariants.{Graphics, Compute, Transfer}
use Rattle.vk.specs.Families.{family_number, on_family}
use Rattle.vk.specs.Sets.{has, union_over}
use Rattle.vk.specs.Stages.{expand, color_attachment_output, compute_shader, all_transfer, host, all_commands, copy, clear}
use Rattle.base.proofs.Booleans.{both}
use Rattle.check_tighten.specs.Own.{single_stages, own_stages}
use Rattle.check_tighten.specs.Internal.Weights.{stage_count, mask_weight}

-- SETS INSIDE OTHERS

pub has_itself : (set : ℕ) → has set set ≡ true
has_itself set = eq-eqb (bit_and set set) set (and_self set)

pub has_then : (a b c : ℕ) → has a b ≡ true → has b c ≡ true → has a c ≡ true
has_then a b c ab bc =
    let e : bit_and a b ≡ b = eqb-true (bit_and a b) b ab in
    let f : bit_and b c ≡ c = eqb-true (bit_and b c) c bc in
    eq-eqb (bit_and a c) c (ap (bit_and a) (sym f) ∙ (sym (and_assoc c a b) ∙ (ap (λ x. bit_and x c) e ∙ f)))

-- EVERY MASK

-- for both truth values
abbrev pub every : (Bool → Bool) → Bool
every f = f true && f false

each : (f : Bool → Bool) (b : Bool) → every f ≡ true → f b ≡ true
each f true e = (both (f true) (f false) e).0
each f false e = (both (f true) (f false) e).1

abbrev pub part : Bool → ℕ → ℕ
part there stands_for = if there then stands_for else 0

-- what a mask stands for, by which of the seven stages it has
abbrev pub stands : Bool → Bool → Bool → Bool → Bool → Bool → Bool → ℕ
stands a b c d e f g =
    bit_or (bit_or (bit_or (bit_or (bit_or (bit_or (bit_or 0 (part a color_attachment_output)) (part b compute_shader)) (part c (bit_or copy clear))) (part d host))
    (part e (bit_or (bit_or (bit_or color_attachment_output compute_shader) copy) clear))) (part f copy)) (part g clear)

-- the union of single stages
abbrev pub five : Bool → Bool → Bool → Bool → Bool → ℕ
five a b c d e = bit_or (bit_or (bit_or (bit_or (bit_or 0 (part a color_attachment_output)) (part b compute_shader)) (part c host)) (part d copy)) (part e clear)

abbrev is_union : ℕ → Bool
is_union set = set == five (has set color_attachment_output) (has set compute_shader) (has set host) (has set copy) (has set clear)

-- a test of every choice of the seven stages
abbrev pub for_all_seven : (Bool → Bool → Bool → Bool → Bool → Bool → Bool → Bool) → Bool
for_all_seven test = every (λ a. every (λ b. every (λ c. every (λ d. every (λ e. every (λ f. every (λ g. test a b c d e f g)))))))

pub all_seven : (test : Bool → Bool → Bool → Bool → Bool → Bool → Bool → Bool) → for_all_seven test ≡ true → (a b c d e f g : Bool) → test a b c d e f g ≡ true
all_seven test all a b c d e f g =
    each (λ g. test a b c d e f g) g
    (each (λ f. every (λ g. test a b c d e f g)) f
    (each (λ e. every (λ f. every (λ g. test a b c d e f g))) e
    (each (λ d. every (λ e. every (λ f. every (λ g. test a b c d e f g)))) d
    (each (λ c. every (λ d. every (λ e. every (λ f. every (λ g. test a b c d e f g))))) c
    (each (λ b. every (λ c. every (λ d. every (λ e. every (λ f. every (λ g. test a b c d e f g)))))) b
    (each (λ a. every (λ b. every (λ c. every (λ d. every (λ e. every (λ f. every (λ g. test a b c d e f g))))))) a all))))))

all_unions : for_all_seven (λ a b c d e f g. is_union (stands a b c d e f g)) ≡ true
all_unions = refl

union_for : (a b c d e f g : Bool) → is_union (stands a b c d e f g) ≡ true
union_for = all_seven (λ a b c d e f g. is_union (stands a b c d e f g)) all_unions

pub as_stands : (set : ℕ) → expand set ≡ stands (has set color_attachment_output) (has set compute_shader) (has set all_transfer) (has set host) (has set all_commands) (has set copy) (has set clear)
as_stands set = refl

expand_is : (set : ℕ) → expand set ≡ five (has (expand set) color_attachment_output) (has (expand set) compute_shader) (has (expand set) host) (has (expand set) copy) (has (expand set) clear)
expand_is set =
    eqb-true (expand set) (five (has (expand set) color_attachment_output) (has (expand set) compute_shader) (has (expand set) host) (has (expand set) copy) (has (expand set) clear))
    (subst (λ s. is_union s ≡ true) (sym (as_stands set)) (union_for (has set color_attachment_output) (has set compute_shader) (has set all_transfer) (has set host) (has set all_commands) (has set copy) (has set clear)))

-- a test of every union of single stages
abbrev pub for_all : (ℕ → Bool) → Bool
for_all test = every (λ a. every (λ b. every (λ c. every (λ d. every (λ e. test (five a b c d e))))))

all_five : (test : ℕ → Bool) → for_all test ≡ true → (a b c d e : Bool) → test (five a b c d e) ≡ true
all_five test all a b c d e =
    each (λ e. test (five a b c d e)) e
    (each (λ d. every (λ e. test (five a b c d e))) d
    (each (λ c. every (λ d. every (λ e. test (five a b c d e)))) c
    (each (λ b. every (λ c. every (λ d. every (λ e. test (five a b c d e))))) b
    (each (λ a. every (λ b. every (λ c. every (λ d. every (λ e. test (five a b c d e)))))) a all))))

-- holds of what a mask stands for
pub at_mask : (test : ℕ → Bool) → for_all test ≡ true → (set : ℕ) → test (expand set) ≡ true
at_mask test all set = subst (λ s. test s ≡ true) (sym (expand_is set)) (all_five test all (has (expand set) color_attachment_output) (has (expand set) compute_shader) (has (expand set) host) (has (expand set) copy) (has (expand set) clear))

-- OWN STAGES

-- of the stages that a mask stands for
abbrev pub owned : Family → ℕ → ℕ
owned family stages = union_over (λ stage. if has stages stage && on_family stage (family_number family) then stage else 0) single_stages

abbrev inside : ℕ → ℕ → Bool
inside stages set = has stages set && has stages (expand set)

-- own stages are among those, and have themselves as own stages
abbrev fits : Family → ℕ → Bool
fits family stages = inside stages (owned family stages) && own_stages family (owned family stages) == owned family stages

-- without one of them there are fewer, and no others
abbrev falls : Family → ℕ → ℕ → Bool
falls family stages stage =
    inside stages (without 64 (owned family stages) stage)
    && (not (has (owned family stages) stage) || nat_lt (mask_weight family (without 64 (owned family stages) stage)) (stage_count (owned family stages)))

all_fit : (family : Family) → for_all (fits family) ≡ true
all_fit Graphics = refl
all_fit Compute = refl
all_fit Transfer = refl

all_fall : (family : Family) → for_all (λ stages. list_all (falls family stages) single_stages) ≡ true
all_fall Graphics = refl
all_fall Compute = refl
all_fall Transfer = refl

pub in_list : (test : ℕ → Bool) (list : List ℕ) (i x : ℕ) → list_all test list ≡ true → slice_get list i ≡ Some x → test x ≡ true
in_list test [] i x all at = absurd cc
in_list test (y ∷ list) zero x all at = let e : y ≡ x = cc in subst (λ z. test z ≡ true) e (both (test y) (list_all test list) all).0
in_list test (y ∷ list) (suc i) x all at = in_list test list i x (both (test y) (list_all test list) all).1 at

fits_at : (family : Family) (set : ℕ) → fits family (expand set) ≡ true
fits_at family set = at_mask (fits family) (all_fit family) set

falls_at : (family : Family) (set i stage : ℕ) → slice_get single_stages i ≡ Some stage → falls family (expand set) stage ≡ true
falls_at family set i stage at = in_list (falls family (expand set)) single_stages i stage (at_mask (λ stages. list_all (falls family stages) single_stages) (all_fall family) set) at

pub fitted_inside : (family : Family) (set : ℕ) → inside (expand set) (own_stages family set) ≡ true
fitted_inside family set = (both (inside (expand set) (own_stages family set)) (own_stages family (own_stages family set) == own_stages family set) (fits_at family set)).0

pub own_twice : (family : Family) (set : ℕ) → own_stages family (own_stages family set) ≡ own_stages family set
own_twice family set = eqb-true (own_stages family (own_stages family set)) (own_stages family set) (both (inside (expand set) (own_stages family set)) (own_stages family (own_stages family set) == own_stages family set) (fits_at family set)).1

pub without_inside : (family : Family) (set i stage : ℕ) → slice_get single_stages i ≡ Some stage → inside (expand set) (without 64 (own_stages family set) stage) ≡ true
without_inside family set i stage at = (both (inside (expand set) (without 64 (own_stages family set) stage)) (not (has (own_stages family set) stage) || nat_lt (mask_weight family (without 64 (own_stages family set) stage)) (stage_count (own_stages family set))) (falls_at family set i stage at)).0

-- MASKS WEIGH LESS

pub there : (a b : Bool) → (not a || b) ≡ true → a ≡ true → b ≡ true
there true b e f = e
there false b e f = absurd cc

no_more : (a b : ℕ) (x : Bool) → a < b → a < b + (if x then 0 else 1)
no_more a b true lt = omega (arith, lt)
no_more a b false lt = omega (arith, lt)

pub without_lighter : (family : Family) (set i stage : ℕ) → slice_get single_stages i ≡ Some stage → has (own_stages family set) stage ≡ true → mask_weight family (without 64 (own_stages family set) stage) < mask_weight family set
without_lighter family set i stage at is =
    let own = own_stages family set in
    let less = nat_lt (mask_weight family (without 64 own stage)) (stage_count own) in
    let falls = (both (inside (expand set) (without 64 own stage)) (not (has own stage) || less) (falls_at family set i stage at)).1 in
    no_more (mask_weight family (without 64 own stage)) (stage_count own) (set == own) (ltb-true (mask_weight family (without 64 own stage)) (stage_count own) (there (has own stage) less falls is))

-- a mask of own stages alone weighs what they weigh
plain_weight : (family : Family) (own : ℕ) → own_stages family own ≡ own → mask_weight family own ≡ stage_count own
plain_weight family own same =
    let e : (own == own_stages family own) ≡ true = eq-eqb own (own_stages family own) (sym same) in
    ap (λ b. stage_count (own_stages family own) + (if b then 0 else 1)) e
    ∙ (ap (λ o. stage_count o + 0) same ∙ (omega arith))

other_weight : (a : ℕ) (x : Bool) → x ≡ false → a < a + (if x then 0 else 1)
other_weight a true e = absurd cc
other_weight a false e = omega arith

not_same : (a b : ℕ) (x : Bool) → (a == b) ≡ x → (a ≡ b → ⊥) → x ≡ false
not_same a b true e ne = absurd (ne (eqb-true a b e))
not_same a b false e ne = refl

pub fitted_lighter : (family : Family) (set : ℕ) → (set ≡ own_stages family set → ⊥) → mask_weight family (own_stages family set) < mask_weight family set
fitted_lighter family set other =
    let own = own_stages family set in
    subst (λ w. w < mask_weight family set) (sym (plain_weight family own (own_twice family set)))
    (other_weight (stage_count own) (set == own) (not_same set own (set == own) refl other))
