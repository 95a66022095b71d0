-- What the calls of `Rows` do to the pairs.
use Rattle.std.proofs.Common.{◌≡◌, ◌⊎◌, ◌↔◌, inl, inr, ℕ, ◌+◌, ◌*◌, ◌/◌, ◌%◌, ◌<◌, ◌≤◌, Bool, true, false, ◌||◌, ◌&&◌, ◌==◌, nat_lt, List, length, get_or, refl, sym, ap, ◌∙◌, ⊎_elim, eq-eqb, eqb-true, arith}
use Rattle.std.proofs.lemmas.Bool.{cases_eq, cases_lt, cases_Bool, and_parts, and_from, or_cases, lt-ltb, le-ltb}
use Rattle.std.proofs.lemmas.Nat.{row_fits}
use Rattle.std.proofs.lemmas.Nat.Bits.{bit_at-zero}
use Rattle.std.specs.Int.{bit_at}
use Rattle.base_reach.specs.Bits.{bit}
use Rattle.base_reach.specs.Pairs.{pairs_of, Ahead}
use Rattle.base_reach.specs.Paths.{Path, one, then_on}
use Rattle.base_reach.proofs.Upward.{pair_is, pair_parts}
use Rattle.base_reach.proofs.WordBits.{eq_no}

pub none_bit : (list : List ℕ) (b : ℕ) → ((k : ℕ) → get_or list k 0 ≡ 0) → bit list b ≡ false
unfolding bit
none_bit list b zeros = ap (λ w. bit_at w (b % 64) == 1) (zeros (b / 64)) ∙ ap (λ x. x == 1) (bit_at-zero (b % 64))

clash : true ≡ false → ⊥
clash q = cc

pub none_ahead : (list : List ℕ) (width count : ℕ) → ((k : ℕ) → get_or list k 0 ≡ 0) → Ahead list width count
none_ahead list width count zeros x y lx ly h = absurd (clash (sym h ∙ none_bit list (x * width * 64 + y) zeros))

both : (s t : Bool) → (s && (t && false)) ≡ false
both true true = refl
both true false = refl
both false t = refl

pub none_pairs : (list : List ℕ) (width count x y : ℕ) → ((k : ℕ) → get_or list k 0 ≡ 0) → pairs_of list width count x y ≡ false
none_pairs list width count x y zeros = ap (λ t. nat_lt x count && (nat_lt y count && t)) (none_bit list (x * width * 64 + y) zeros) ∙ both (nat_lt x count) (nat_lt y count)

-- the place of a pair lies in the words
pub in_words : (words : List ℕ) (width count x y : ℕ) → length words ≡ count * width → x < count → y < 64 * width → x * width * 64 + y < 64 * length words
in_words words width count x y size lx ly = let f : x * width + width ≤ count * width = row_fits x width count width lx (omega arith) in omega (arith, f, size, ly)

rows_differ : (width a b x y : ℕ) → b < 64 * width → a < x → a * width * 64 + b ≡ x * width * 64 + y → ⊥
rows_differ width a b x y lb lt e = let f : a * width + width ≤ x * width = row_fits a width x width lt (omega arith) in omega (arith, f, e, lb)

pub same_place : (width a b x y : ℕ) → b < 64 * width → y < 64 * width → a * width * 64 + b ≡ x * width * 64 + y → (a ≡ x) × (b ≡ y)
same_place width a b x y lb ly e = go (cases_eq a x)
  where
    go : (a ≡ x) ⊎ (a ≡ x → ⊥) → (a ≡ x) × (b ≡ y)
    go (inl q) = (q, omega (arith, e, ap (λ n. n * width * 64) q))
    go (inr ne) = ⊎_elim (λ lt. absurd (rows_differ width a b x y lb lt e)) (λ ge. absurd (rows_differ width x y a b ly (omega (arith, ge, ne)) (sym e))) (cases_lt a x)

pub set_ahead : (old new : List ℕ) (width count x y : ℕ) → count ≤ 64 * width → length old ≡ count * width → x < y → y < count → ((b : ℕ) → b < 64 * length old → bit new b ≡ ((b == x * width * 64 + y) || bit old b)) → Ahead old width count → Ahead new width count
set_ahead old new width count x y wide size lt ly bits A a b la lb h = ⊎_elim
    (λ q. let s = same_place width a b x y lb (omega (arith, ly, wide)) (eqb-true (a * width * 64 + b) (x * width * 64 + y) q) in (omega (arith, s.0, s.1, lt), omega (arith, s.1, ly)))
    (λ q. A a b la lb q)
    (or_cases (a * width * 64 + b == x * width * 64 + y) (bit old (a * width * 64 + b)) (sym (bits (a * width * 64 + b) (in_words old width count a b size la lb)) ∙ h))

pub set_pairs : (old new : List ℕ) (width count x y : ℕ) → count ≤ 64 * width → length old ≡ count * width → x < count → y < count → ((b : ℕ) → b < 64 * length old → bit new b ≡ ((b == x * width * 64 + y) || bit old b)) → (a b : ℕ) → pairs_of new width count a b ≡ (((a == x) && (b == y)) || pairs_of old width count a b)
set_pairs old new width count x y wide size lx ly bits a b = go (cases_lt a count) (cases_lt b count)
  where
    off : pairs_of new width count a b ≡ false → pairs_of old width count a b ≡ false → ((a == x) && (b == y)) ≡ false → pairs_of new width count a b ≡ (((a == x) && (b == y)) || pairs_of old width count a b)
    off p q r = rw (p, q, r) refl

    go : (a < count) ⊎ (count ≤ a) → (b < count) ⊎ (count ≤ b) → pairs_of new width count a b ≡ (((a == x) && (b == y)) || pairs_of old width count a b)
    go (inr h) t = rw (le-ltb a count h, eq_no a x (omega (arith, h, lx))) refl
    go (inl la) (inr h) = rw (lt-ltb a count la, le-ltb b count h, eq_no b y (omega (arith, h, ly))) (ends (a == x))
      where
        ends : (t : Bool) → false ≡ ((t && false) || false)
        ends true = refl
        ends false = refl
    go (inl la) (inl lb) =
        pair_is new width count a b la lb
        ∙ bits (a * width * 64 + b) (in_words old width count a b size la (omega (arith, lb, wide)))
        ∙ ap (λ t. t || bit old (a * width * 64 + b)) place
        ∙ ap (λ t. ((a == x) && (b == y)) || t) (sym (pair_is old width count a b la lb))
      where
        place : (a * width * 64 + b == x * width * 64 + y) ≡ ((a == x) && (b == y))
        place = ⊎_elim
            (λ q.
            let s = same_place width a b x y (omega (arith, lb, wide)) (omega (arith, ly, wide)) (eqb-true (a * width * 64 + b) (x * width * 64 + y) q) in
            q ∙ sym (and_from (a == x) (b == y) (eq-eqb a x s.0) (eq-eqb b y s.1)))
            (λ q. q ∙ sym (⊎_elim (λ r. absurd (let p = and_parts (a == x) (b == y) r in clash (sym (eq-eqb (a * width * 64 + b) (x * width * 64 + y) (ap (λ n. n * width * 64 + b) (eqb-true a x p.0) ∙ ap (λ n. x * width * 64 + n) (eqb-true b y p.1))) ∙ q))) (λ r. r) (cases_Bool ((a == x) && (b == y)))))
            (cases_Bool (a * width * 64 + b == x * width * 64 + y))

-- the closure, of numbers below the count and of others
pub close_pairs : (old new : List ℕ) (width count : ℕ) → ((x y : ℕ) → x < count → y < count → (bit new (x * width * 64 + y) ≡ true) ↔ Path (pairs_of old width count) x y) → (a b : ℕ) → (pairs_of new width count a b ≡ true) ↔ Path (pairs_of old width count) a b
close_pairs old new width count paths a b = (there, back)
  where
    there : pairs_of new width count a b ≡ true → Path (pairs_of old width count) a b
    there h = let p = pair_parts new width count a b h in (paths a b p.0 p.1).0 p.2

    ends : (x y : ℕ) → Path (pairs_of old width count) x y → (x < count) × (y < count)
    ends x y (one e) = let p = pair_parts old width count x y e in (p.0, p.1)
    ends x y (then_on {b = z} p q) = ((ends x z p).0, (ends z y q).1)

    back : Path (pairs_of old width count) a b → pairs_of new width count a b ≡ true
    back p = let e = ends a b p in pair_is new width count a b e.0 e.1 ∙ (paths a b e.0 e.1).1 p
