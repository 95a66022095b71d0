-- Bits of words.
use Rattle.std.proofs.Common.{◌≡◌, ◌≢◌, ◌⊎◌, inl, inr, ℕ, zero, suc, ◌+◌, ◌-◌, ◌*◌, ◌/◌, ◌%◌, ◌^◌, ◌<◌, ◌≤◌, Bool, true, false, ◌||◌, ◌==◌, List, length, get_or, slice_set, refl, sym, ap, ◌∙◌, ⊎_elim, subst, max, eq-eqb, eqb-true, arith, w64, get_or-set_same, get_or-set_other}
use Rattle.std.proofs.lemmas.Bool.{cases_eq, cases_lt, cases_Bool, leb-false}
use Rattle.std.proofs.lemmas.Nat.Bits.{bit_at-zero, bit_at_and, bit_at_not, bit_at_or, bit_at-lt, bit_at_set_same, bit_at_set_other}
use Rattle.std.proofs.lemmas.Nat.{and_le_l, row_fits}
use Rattle.std.proofs.lemmas.List.{get_or_past}
use Rattle.std.proofs.lemmas.Bool.{or_left, or_right, or_cases}
use Rattle.std.specs.Int.{bit_not}
use Rattle.std.specs.Prelude.{bit_or, bit_and, nat_le, if◌then◌else◌}
use Rattle.std.specs.Int.{bit_at}
use Rattle.base_reach.specs.Bits.{bit}
use Rattle.base_reach.specs.Internal.Closing.{row_bit, ClosedRows, Reaches, Grown}

pub eq_no : (a b : ℕ) → a ≢ b → (a == b) ≡ false
eq_no a b ne = ⊎_elim (λ h. absurd (ne (eqb-true a b h))) (λ h. h) (cases_Bool (a == b))

or_bits : (a b : ℕ) → a < 2 → b < 2 → (max a b == 1) ≡ ((a == 1) || (b == 1))
or_bits zero zero p q = refl
or_bits zero (suc zero) p q = refl
or_bits (suc zero) zero p q = refl
or_bits (suc zero) (suc zero) p q = refl
or_bits (suc (suc a)) b p q = absurd (omega (arith, p))
or_bits zero (suc (suc b)) p q = absurd (omega (arith, q))
or_bits (suc zero) (suc (suc b)) p q = absurd (omega (arith, q))

pub or_bit : (a b i : ℕ) → (bit_at (bit_or a b) i == 1) ≡ ((bit_at a i == 1) || (bit_at b i == 1))
or_bit a b i = ap (λ x. x == 1) (bit_at_or a b i) ∙ or_bits (bit_at a i) (bit_at b i) (bit_at-lt a i) (bit_at-lt b i)

-- bit b of the table from `base` on
pub table_bit : (table : List ℕ) (base b : ℕ) → bit table (base * 64 + b) ≡ (bit_at (get_or table (base + b / 64) 0) (b % 64) == 1)
unfolding bit
table_bit table base b =
    let q : (base * 64 + b) / 64 ≡ base + b / 64 = omega arith in
    let r : (base * 64 + b) % 64 ≡ b % 64 = omega arith in
    rw (q, r) refl

-- the row after `add_words`
pub added : (old mid table : List ℕ) (base place b : ℕ) → b < 64 * length old → ((k : ℕ) → k < length old → get_or mid k 0 ≡ (if nat_le (place / 64) k then bit_or (get_or old k 0) (get_or table (base + k) 0) else get_or old k 0)) → ((b : ℕ) → b < place → bit table (base * 64 + b) ≡ false) → bit mid b ≡ (bit old b || bit table (base * 64 + b))
unfolding bit
added old mid table base place b lt words low = go (nat_le (place / 64) (b / 64)) refl
  where
    at : get_or mid (b / 64) 0 ≡ (if nat_le (place / 64) (b / 64) then bit_or (get_or old (b / 64) 0) (get_or table (base + b / 64) 0) else get_or old (b / 64) 0)
    at = words (b / 64) (omega (arith, lt))

    none : (x : Bool) → x ≡ (x || false)
    none true = refl
    none false = refl

    go : (t : Bool) → nat_le (place / 64) (b / 64) ≡ t → (bit_at (get_or mid (b / 64) 0) (b % 64) == 1) ≡ ((bit_at (get_or old (b / 64) 0) (b % 64) == 1) || (bit table (base * 64 + b)))
    go true e = ap (λ w. bit_at w (b % 64) == 1) (at ∙ ap (λ t. if t then bit_or (get_or old (b / 64) 0) (get_or table (base + b / 64) 0) else get_or old (b / 64) 0) e) ∙ or_bit (get_or old (b / 64) 0) (get_or table (base + b / 64) 0) (b % 64) ∙ ap (λ t. (bit_at (get_or old (b / 64) 0) (b % 64) == 1) || t) (sym (table_bit table base b))
    go false e =
        let less : b < place = omega (arith, leb-false (place / 64) (b / 64) e) in
        ap (λ w. bit_at w (b % 64) == 1) (at ∙ ap (λ t. if t then bit_or (get_or old (b / 64) 0) (get_or table (base + b / 64) 0) else get_or old (b / 64) 0) e) ∙ none (bit_at (get_or old (b / 64) 0) (b % 64) == 1) ∙ ap (λ t. (bit_at (get_or old (b / 64) 0) (b % 64) == 1) || t) (sym (low b less))

-- a list with one more bit
pub with_bit : (list : List ℕ) (place b : ℕ) → place < 64 * length list → b < 64 * length list → bit (slice_set list (place / 64) (bit_or (get_or list (place / 64) 0) (1 * 2 ^ (place % 64) % 2 ^ 64))) b ≡ ((b == place) || bit list b)
unfolding bit
with_bit list place b within lt = ⊎_elim same other (cases_eq (b / 64) (place / 64))
  where
    word : ℕ
    word = bit_or (get_or list (place / 64) 0) (1 * 2 ^ (place % 64) % 2 ^ 64)

    in_list : place / 64 < length list
    in_list = omega (arith, within)

    other : b / 64 ≢ place / 64 → (bit_at (get_or (slice_set list (place / 64) word) (b / 64) 0) (b % 64) == 1) ≡ ((b == place) || (bit_at (get_or list (b / 64) 0) (b % 64) == 1))
    other ne =
        let apart : b ≢ place = λ h. ne (ap (λ x. x / 64) h) in
        ap (λ w. bit_at w (b % 64) == 1) (get_or-set_other list (place / 64) (b / 64) word 0 ne) ∙ ap (λ t. t || (bit_at (get_or list (b / 64) 0) (b % 64) == 1)) (sym (eq_no b place apart))

    there : b / 64 ≡ place / 64 → get_or (slice_set list (place / 64) word) (b / 64) 0 ≡ word
    there e = rw e (get_or-set_same list (place / 64) word 0 in_list)

    same : b / 64 ≡ place / 64 → (bit_at (get_or (slice_set list (place / 64) word) (b / 64) 0) (b % 64) == 1) ≡ ((b == place) || (bit_at (get_or list (b / 64) 0) (b % 64) == 1))
    same e = ⊎_elim
        (λ (r : b % 64 ≡ place % 64).
        let q : b ≡ place = omega arith in
        ap (λ w. bit_at w (b % 64) == 1) (there e) ∙ ap (λ i. bit_at word i == 1) r ∙ ap (λ x. x == 1) (bit_at_set_same w64 (get_or list (place / 64) 0) (place % 64) (omega arith)) ∙ ap (λ t. t || (bit_at (get_or list (b / 64) 0) (b % 64) == 1)) (sym (eq-eqb b place q)))
        (λ (r : b % 64 ≢ place % 64).
        let apart : b ≢ place = λ h. r (ap (λ x. x % 64) h) in
        ap (λ w. bit_at w (b % 64) == 1) (there e) ∙ ap (λ x. x == 1) (bit_at_set_other w64 (get_or list (place / 64) 0) (place % 64) (omega arith) (b % 64) r) ∙ ap (λ i. bit_at (get_or list i 0) (b % 64) == 1) (sym e) ∙ ap (λ t. t || (bit_at (get_or list (b / 64) 0) (b % 64) == 1)) (sym (eq_no b place apart)))
        (cases_eq (b % 64) (place % 64))

-- a bit of one word of a list
pub word_bit : (list : List ℕ) (at j : ℕ) → j < 64 → bit list (at * 64 + j) ≡ (bit_at (get_or list at 0) j == 1)
unfolding bit
word_bit list at j lt =
    let q : (at * 64 + j) / 64 ≡ at = omega arith in
    let r : (at * 64 + j) % 64 ≡ j = omega arith in
    rw (q, r) refl

pub word_bit_at : (list : List ℕ) (at j : ℕ) → j < 64 → bit list (at * 64 + j) ≡ true → bit_at (get_or list at 0) j ≡ 1
word_bit_at list at j lt h = eqb-true (bit_at (get_or list at 0) j) 1 (sym (word_bit list at j lt) ∙ h)

pub word_bit_from : (list : List ℕ) (at j : ℕ) → j < 64 → bit_at (get_or list at 0) j ≡ 1 → bit list (at * 64 + j) ≡ true
word_bit_from list at j lt h = word_bit list at j lt ∙ eq-eqb (bit_at (get_or list at 0) j) 1 h

-- the bits of w that a word v does not have
pub minus_less : (w v j : ℕ) → bit_at (bit_and w (bit_not w64 v)) j ≡ 1 → bit_at w j ≡ 1
minus_less w v j h = omega (arith, bit_at_and w (bit_not w64 v) j, bit_at-lt w j, h)

pub minus_stays : (w v j : ℕ) → v < 2 ^ 64 → j < 64 → bit_at w j ≡ 1 → (bit_at (bit_and w (bit_not w64 v)) j ≡ 1) ⊎ (bit_at v j ≡ 1)
minus_stays w v j fits lt h = ⊎_elim (λ e. inr e) (λ ne. inl (let z : bit_at v j ≡ 0 = omega (arith, bit_at-lt v j, ne) in omega (arith, bit_at_and w (bit_not w64 v) j, bit_at_not w64 v j fits lt, h, z))) (cases_eq (bit_at v j) 1)

pub minus_gone : (w v j : ℕ) → v < 2 ^ 64 → j < 64 → bit_at v j ≡ 1 → bit_at (bit_and w (bit_not w64 v)) j ≡ 0
minus_gone w v j fits lt h = omega (arith, bit_at_and w (bit_not w64 v) j, bit_at_not w64 v j fits lt, h)

pub minus_smaller : (w v j : ℕ) → v < 2 ^ 64 → j < 64 → bit_at w j ≡ 1 → bit_at v j ≡ 1 → bit_and w (bit_not w64 v) < w
minus_smaller w v j fits lt h k = ⊎_elim
    (λ (e : bit_and w (bit_not w64 v) ≡ w). absurd (let z : bit_at (bit_and w (bit_not w64 v)) j ≡ bit_at w j = ap (λ x. bit_at x j) e in let g = minus_gone w v j fits lt k in omega arith))
    (λ ne. omega (arith, and_le_l w (bit_not w64 v), ne))
    (cases_eq (bit_and w (bit_not w64 v)) w)

-- the row of a number lies in the table
pub row_within : (table : List ℕ) (width from count place : ℕ) → ClosedRows table width from count → from ≤ place → place < count → (place - from) * width + width ≤ length table
row_within table width from count place R low high = rw R.size (fits (place - from) (count - from) (omega (arith, low, high)))
  where
    fits : (i n : ℕ) → i < n → i * width + width ≤ n * width
    fits i n lt = row_fits i width n width lt (omega arith)

pub row_low : (table : List ℕ) (width from count place b : ℕ) → ClosedRows table width from count → from ≤ place → place < count → b < place → bit table ((place - from) * width * 64 + b) ≡ false
row_low table width from count place b R low high lt = ⊎_elim (λ h. absurd (omega (arith, (R.forward place b low high (omega (arith, R.wide, high, lt)) h).0, lt))) (λ h. h) (cases_Bool (bit table ((place - from) * width * 64 + b)))

-- a number of the first set is added with its row
pub grow : (direct table row new : List ℕ) (width from count place : ℕ) → ClosedRows table width from count → bit direct place ≡ true → from ≤ place → place < count → Grown direct table width from count row → ((b : ℕ) → b < 64 * width → bit new b ≡ ((b == place) || (bit row b || row_bit table width from place b))) → Grown direct table width from count new
grow direct table row new width from count place R is low high G bits = record { reached = reached; whole = whole }
  where
    at : (b : ℕ) → b < count → bit new b ≡ ((b == place) || (bit row b || row_bit table width from place b))
    at b lt = bits b (omega (arith, R.wide, lt))

    old : (b : ℕ) → b < count → bit row b ≡ true → bit new b ≡ true
    old b lt h = at b lt ∙ or_right (b == place) (bit row b || row_bit table width from place b) (or_left (bit row b) (row_bit table width from place b) h)

    next : (b : ℕ) → b < count → row_bit table width from place b ≡ true → bit new b ≡ true
    next b lt h = at b lt ∙ or_right (b == place) (bit row b || row_bit table width from place b) (or_right (bit row b) (row_bit table width from place b) h)

    reached : (b : ℕ) → b < 64 * width → bit new b ≡ true → Reaches direct table width from b
    reached b lt h = ⊎_elim
        (λ e. (place, is, inl (sym (eqb-true b place e))))
        (λ t. ⊎_elim (λ r. G.reached b lt r) (λ r. (place, is, inr r)) (or_cases (bit row b) (row_bit table width from place b) t))
        (or_cases (b == place) (bit row b || row_bit table width from place b) (sym (bits b lt) ∙ h))

    whole : (y b : ℕ) → y < count → b < count → bit new y ≡ true → row_bit table width from y b ≡ true → bit new b ≡ true
    whole y b ly lb h r = ⊎_elim
        (λ e. next b lb (subst (λ z. row_bit table width from z b ≡ true) (eqb-true y place e) r))
        (λ t. ⊎_elim (λ o. old b lb (G.whole y b ly lb o r)) (λ o. next b lb (R.closed place y b low high ly lb o r)) (or_cases (bit row y) (row_bit table width from place y) t))
        (or_cases (y == place) (bit row y || row_bit table width from place y) (sym (at y ly) ∙ h))

-- a row that has all of the first set has exactly what is reached
pub grown_whole : (direct table row : List ℕ) (width from count b : ℕ) → ClosedRows table width from count → ((y : ℕ) → y < 64 * width → bit direct y ≡ true → (from ≤ y) × (y < count)) → Grown direct table width from count row → ((y : ℕ) → y < 64 * width → bit direct y ≡ true → bit row y ≡ true) → ((y : ℕ) → 64 * width ≤ y → bit direct y ≡ true → ⊥) → b < 64 * width → Reaches direct table width from b → bit row b ≡ true
grown_whole direct table row width from count b R above G all none lt t = ⊎_elim (λ e. subst (λ z. bit row z ≡ true) e (all t.0 small t.1)) (λ r. G.whole t.0 b (above t.0 small t.1).1 (R.forward t.0 b (above t.0 small t.1).0 (above t.0 small t.1).1 lt r).1 (all t.0 small t.1) r) t.2
  where
    small : t.0 < 64 * width
    small = ⊎_elim (λ h. h) (λ h. absurd (none t.0 h t.1)) (cases_lt t.0 (64 * width))

-- no bit is past the end
pub past_end : (list : List ℕ) (b : ℕ) → 64 * length list ≤ b → bit list b ≡ true → ⊥
unfolding bit
past_end list b h e = no (sym (ap (λ w. bit_at w (b % 64) == 1) (get_or_past list (b / 64) 0 (omega (arith, h)))) ∙ e)
  where
    no : (bit_at 0 (b % 64) == 1) ≡ true → ⊥
    no q = omega (arith, bit_at-zero (b % 64), eqb-true (bit_at 0 (b % 64)) 1 q)

pub nothing_grown : (direct table row : List ℕ) (width from count : ℕ) → count ≤ 64 * width → ((b : ℕ) → b < 64 * width → bit row b ≡ false) → Grown direct table width from count row
nothing_grown direct table row width from count wide empty = record {
  reached = λ b lt h. absurd (no (sym (empty b lt) ∙ h));
  whole = λ y b ly lb h r. absurd (no (sym (empty y (omega (arith, wide, ly))) ∙ h));
}
  where
    no : false ≡ true → ⊥
    no q = cc
