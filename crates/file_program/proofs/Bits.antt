-- Sets of bits: what unions keep.
use Rattle.std.proofs.Common.{◌≡◌, ◌==◌, ◌*◌, ◌^◌, ◌<◌, ℕ, zero, suc, false, refl, sym, ap, ap₂, ◌∙◌, arith, min}
use Rattle.std.specs.Int.RustNames.{bit_and, bit_or}
use Rattle.std.specs.Int.{bit_at}
use Rattle.std.proofs.lemmas.Bool.{eqb-false}
use Rattle.std.proofs.lemmas.Nat.Bits.{bit_at_and, bit_at_or, bit_at-lt, bit_at-zero, and_pow, same_from_bits}
use Rattle.vk.specs.Sets.{has}

pub and_or_both : (s a b : ℕ) → bit_and s (bit_or a b) ≡ bit_or (bit_and s a) (bit_and s b)
and_or_both s a b = same_from_bits (bit_and s (bit_or a b)) (bit_or (bit_and s a) (bit_and s b)) (λ i.
    let left = bit_at_and s (bit_or a b) i in
    let inner = bit_at_or a b i in
    let right = bit_at_or (bit_and s a) (bit_and s b) i in
    let first = bit_at_and s a i in
    let second = bit_at_and s b i in
    omega (arith, left, inner, right, first, second))

pub or_assoc : (a b c : ℕ) → bit_or (bit_or a b) c ≡ bit_or a (bit_or b c)
or_assoc a b c = same_from_bits (bit_or (bit_or a b) c) (bit_or a (bit_or b c)) (λ i.
    let left = bit_at_or (bit_or a b) c i in
    let inner = bit_at_or a b i in
    let right = bit_at_or a (bit_or b c) i in
    let second = bit_at_or b c i in
    omega (arith, left, inner, right, second))

pub zero_or : (a : ℕ) → bit_or 0 a ≡ a
zero_or a = same_from_bits (bit_or 0 a) a (λ i.
    let both = bit_at_or 0 a i in
    let none = bit_at-zero i in
    omega (arith, both, none))

pub or_zero : (a : ℕ) → bit_or a 0 ≡ a
or_zero a = same_from_bits (bit_or a 0) a (λ i.
    let both = bit_at_or a 0 i in
    let none = bit_at-zero i in
    omega (arith, both, none))

same_test : (a b : ℕ) → a ≡ b → (a == b) ≡ false → ⊥
same_test a b is e = absurd (eqb-false a b e is)

-- a bit that is not in a set leaves nothing of it
pub apart : (set k bit : ℕ) → bit ≡ 2 ^ k → has set bit ≡ false → bit_and set bit ≡ 0
apart set k bit is out = by_bit (bit_at set k) refl (bit_at-lt set k)
  where
    all : (b : ℕ) → bit_at set k ≡ b → bit_and set bit ≡ b * 2 ^ k
    all b e = ap (bit_and set) is ∙ and_pow set k ∙ ap (λ x. x * 2 ^ k) e

    by_bit : (b : ℕ) → bit_at set k ≡ b → b < 2 → bit_and set bit ≡ 0
    by_bit zero e small = let none : 0 * 2 ^ k ≡ 0 = omega arith in all 0 e ∙ none
    by_bit (suc zero) e small = let once : 1 * 2 ^ k ≡ 2 ^ k = omega arith in absurd (same_test (bit_and set bit) bit (all 1 e ∙ once ∙ sym is) out)
    by_bit (suc (suc b)) e small = absurd (omega (arith, small))

-- a union has its parts, and what its second part has
pub has_first : (a rest : ℕ) → bit_and (bit_or a rest) a ≡ a
has_first a rest = same_from_bits (bit_and (bit_or a rest) a) a (λ i.
    let both = bit_at_and (bit_or a rest) a i in
    let union = bit_at_or a rest i in
    omega (arith, both, union))

pub has_rest : (a rest b : ℕ) → bit_and rest b ≡ b → bit_and (bit_or a rest) b ≡ b
has_rest a rest b e = same_from_bits (bit_and (bit_or a rest) b) b (λ i.
    let both = bit_at_and (bit_or a rest) b i in
    let union = bit_at_or a rest i in
    let inner : bit_at b i ≡ min (bit_at rest i) (bit_at b i) = sym (ap (λ x. bit_at x i) e) ∙ bit_at_and rest b i in
    omega (arith, both, union, inner))

-- what has two sets has their union
pub has_union : (all a b : ℕ) → bit_and all a ≡ a → bit_and all b ≡ b → bit_and all (bit_or a b) ≡ bit_or a b
has_union all a b x y = and_or_both all a b ∙ ap₂ bit_or x y

-- what has a set has its parts
pub has_part : (all whole part : ℕ) → bit_and all whole ≡ whole → bit_and whole part ≡ part → bit_and all part ≡ part
has_part all whole part x y = same_from_bits (bit_and all part) part (λ i.
    let both = bit_at_and all part i in
    let first : bit_at whole i ≡ min (bit_at all i) (bit_at whole i) = sym (ap (λ n. bit_at n i) x) ∙ bit_at_and all whole i in
    let second : bit_at part i ≡ min (bit_at whole i) (bit_at part i) = sym (ap (λ n. bit_at n i) y) ∙ bit_at_and whole part i in
    omega (arith, both, first, second))
