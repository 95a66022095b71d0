-- Texels by the bytes that hold them.
use Rattle.std.proofs.Common.{◌≡◌, ℕ, zero, suc, ◌+◌, ◌*◌, ◌%◌, ◌<◌, List, [], ◌∷◌, get_or, take, drop, refl, ap, ◌∙◌, ◌/◌, arith, Fits, w8, w16}
use Rattle.std.proofs.lemmas.List.{get_or-take, get_or-drop}
use Rattle.std.specs.Int.{from_le_bytes}
use Rattle.std.specs.Simd.Lanes.{number_l}
use Rattle.base.specs.Texels.{modulus, texel_at}
use Rattle.base.specs.declared.shape.Texel.{Texel}
use Rattle.base.specs.declared.shape.Texel.TheVariants.{R8, R32}

-- the first of some bytes, and the others
number_more : (bytes : List ℕ) (k n : ℕ) → number_l 256 (take (suc n) (drop k bytes)) ≡ get_or bytes k 0 + 256 * number_l 256 (take n (drop (suc k) bytes))
number_more [] zero zero = refl
number_more [] zero (suc n) = refl
number_more [] (suc k) zero = refl
number_more [] (suc k) (suc n) = refl
number_more (b ∷ bytes) zero n = refl
number_more (b ∷ bytes) (suc k) n = number_more bytes k n

number_from : (bytes : List ℕ) (k j n : ℕ) → j ≡ suc k → number_l 256 (take (suc n) (drop k bytes)) ≡ get_or bytes k 0 + 256 * number_l 256 (take n (drop j bytes))
number_from bytes k j n e = rw e (number_more bytes k n)

pub byte_is : (bytes : List ℕ) (i : ℕ) → texel_at R8 bytes i ≡ get_or bytes i 0
unfolding texel_at
byte_is bytes i =
    let k : 1 * i ≡ i = omega arith in
    rw k (omega (arith, number_more bytes i 0))

pub word_is : (bytes : List ℕ) (i : ℕ) → texel_at R32 bytes i ≡ get_or bytes (4 * i) 0 + 256 * get_or bytes (4 * i + 1) 0 + 65536 * get_or bytes (4 * i + 2) 0 + 16777216 * get_or bytes (4 * i + 3) 0
unfolding texel_at
word_is bytes i =
    let k = 4 * i in
    omega (
      arith,
      number_from bytes k (k + 1) 3 (omega arith),
      number_from bytes (k + 1) (k + 2) 2 (omega arith),
      number_from bytes (k + 2) (k + 3) 1 (omega arith),
      number_more bytes (k + 3) 0,
    )

abbrev pub AreBytes : List ℕ → Type 0
AreBytes bytes = (i : ℕ) → Fits w8 (get_or bytes i 0)

-- bytes hold numbers below the modulus
pub whole_texel : (t : Texel) (bytes : List ℕ) (i : ℕ) → AreBytes bytes → texel_at t bytes i ≡ texel_at t bytes i % modulus t
whole_texel R8 bytes i fit =
    let b : get_or bytes i 0 < 256 = (fit i).fits in
    omega (arith, byte_is bytes i)
whole_texel R32 bytes i fit =
    let a : get_or bytes (4 * i) 0 < 256 = (fit (4 * i)).fits in
    let b : get_or bytes (4 * i + 1) 0 < 256 = (fit (4 * i + 1)).fits in
    let c : get_or bytes (4 * i + 2) 0 < 256 = (fit (4 * i + 2)).fits in
    let d : get_or bytes (4 * i + 3) 0 < 256 = (fit (4 * i + 3)).fits in
    omega (arith, word_is bytes i)

-- two bytes side by side, read as one number
pub pair_sum : (bytes pair : List ℕ) (i both : ℕ) → AreBytes bytes → pair ≡ take 2 (drop i bytes) → both ≡ from_le_bytes w16 pair → both % 256 + both / 256 ≡ texel_at R8 bytes i + texel_at R8 bytes (i + 1)
pair_sum bytes pair i both fit is read =
    let low : get_or pair 0 0 ≡ get_or bytes i 0 =
    let z : i + 0 ≡ i = omega arith in
    ap (λ (l : List ℕ). get_or l 0 0) is ∙ get_or-take 2 (drop i bytes) 0 0 (omega arith) ∙ get_or-drop i bytes 0 0 ∙ ap (λ (k : ℕ). get_or bytes k 0) z in
    let high : get_or pair 1 0 ≡ get_or bytes (i + 1) 0 =
    ap (λ (l : List ℕ). get_or l 1 0) is ∙ get_or-take 2 (drop i bytes) 1 0 (omega arith) ∙ get_or-drop i bytes 1 0 in
    let a : get_or bytes i 0 < 256 = (fit i).fits in
    let b : get_or bytes (i + 1) 0 < 256 = (fit (i + 1)).fits in
    omega (arith, read, low, high, byte_is bytes i, byte_is bytes (i + 1))
