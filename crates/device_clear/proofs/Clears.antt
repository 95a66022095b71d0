-- A word again and again is an image of one number.
use Rattle.std.proofs.Common.{◌≡◌, ℕ, ◌+◌, ◌*◌, ◌%◌, ◌^◌, ◌<◌, ◌≤◌, true, List, length, get_or, ap, ◌∙◌, ⊎_elim, arith}
use Rattle.std.proofs.lemmas.Bool.{cases_lt}
use Rattle.std.proofs.lemmas.List.{get_or_past, get_or-replicate}
use Rattle.base.specs.Shapes.{bytes_of, is_image, texel_bytes}
use Rattle.base.specs.Texels.{canvas_of, modulus, painted, texel_at}
use Rattle.base.specs.declared.shape.Shape.{Shape}
use Rattle.base.specs.declared.shape.Texel.{Texel}
use Rattle.base.specs.declared.shape.Texel.TheVariants.{R8, R32}
use Rattle.device_cache.specs.Repeats.{repeated}
use Rattle.device_cache.proofs.Repeating.{length_repeated, repeated_at, one_byte}
use Rattle.device_clear.specs.Internal.Words.{word_of}
use Rattle.kernel.proofs.Fitting.{image_bytes}
use Rattle.kernel.proofs.Numbers.{AreBytes, byte_is, word_is}
use Rattle.kernel.proofs.Pieces.{band_from}
use Rattle.kernel.proofs.Rows.{place_within}

bytes_repeat : (word n : ℕ) → AreBytes (repeated word n)
bytes_repeat word n i = ⊎_elim
    (λ (lt : i < n). rw (repeated_at word n i lt) (record { fits = omega arith }))
    (λ (ge : n ≤ i). rw (get_or_past (repeated word n) i 0 (omega (arith, ge, length_repeated word n))) (record { fits = omega arith }))
    (cases_lt i n)

-- four bytes side by side
word_at : (word n i : ℕ) → 4 * i + 4 ≤ n → texel_at R32 (repeated word n) i ≡ word % 2 ^ 32
word_at word n i within =
    let a : 4 * i % 4 ≡ 0 = omega arith in
    let b : (4 * i + 1) % 4 ≡ 1 = omega arith in
    let c : (4 * i + 2) % 4 ≡ 2 = omega arith in
    let d : (4 * i + 3) % 4 ≡ 3 = omega arith in
    let first = rw a at (repeated_at word n (4 * i) (omega (arith, within))) in
    let second = rw b at (repeated_at word n (4 * i + 1) (omega (arith, within))) in
    let third = rw c at (repeated_at word n (4 * i + 2) (omega (arith, within))) in
    let fourth = rw d at (repeated_at word n (4 * i + 3) (omega (arith, within))) in
    word_is (repeated word n) i ∙ omega (arith, first, second, third, fourth)

-- one byte in each place
byte_at : (value n i : ℕ) → i < n → texel_at R8 (repeated (value % 256 * 16843009) n) i ≡ value % 2 ^ 8
byte_at value n i lt =
    byte_is (repeated (value % 256 * 16843009) n) i
    ∙ ap (λ (bytes : List ℕ). get_or bytes i 0) (one_byte (value % 256) n (omega arith))
    ∙ get_or-replicate n i (value % 256) 0 lt

texel_is : (t : Texel) (value n i : ℕ) → texel_bytes t * i + texel_bytes t ≤ n → texel_at t (repeated (word_of t value) n) i ≡ value % modulus t
texel_is R8 value n i within = byte_at value n i (omega (arith, within))
texel_is R32 value n i within = word_at value n i within

inside : (t : Texel) (i w h n : ℕ) → i < w * h → n ≡ texel_bytes t * (w * h) → texel_bytes t * i + texel_bytes t ≤ n
inside R8 i w h n lt long = omega (arith, lt, long)
inside R32 i w h n lt long = omega (arith, lt, long)

pub cleared_bytes : (s : Shape) (value : ℕ) → is_image s ≡ true → repeated (word_of (canvas_of s).texel value) (bytes_of s) ≡ painted (canvas_of s) (λ x y. value)
cleared_bytes s value image =
    let g = canvas_of s in
    let n = bytes_of s in
    let long = image_bytes s image in
    let word = word_of g.texel value in
    band_from g.texel g.width 0 g.height (λ x y. value) (repeated word n) (bytes_repeat word n) (length_repeated word n ∙ long) (λ x y hx hy.
    texel_is g.texel value n (y * g.width + x) (inside g.texel (y * g.width + x) g.width g.height n (place_within g.width g.height y x hx hy) long))

pub cleared_from : (s : Shape) (bytes : List ℕ) (word value : ℕ) → is_image s ≡ true → length bytes ≡ bytes_of s → bytes ≡ repeated word (length bytes) → word ≡ word_of (canvas_of s).texel value → bytes ≡ painted (canvas_of s) (λ x y. value)
cleared_from s bytes word value image long is number =
    is ∙ ap (repeated word) long ∙ ap (λ (w : ℕ). repeated w (bytes_of s)) number ∙ cleared_bytes s value image
