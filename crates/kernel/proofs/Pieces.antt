-- Bytes whose texels are those of a picture are the picture's bytes.
use Rattle.std.proofs.Common.{◌≡◌, ℕ, zero, suc, ◌+◌, ◌*◌, ◌/◌, ◌%◌, ◌-◌, ◌<◌, ◌≤◌, List, [], ◌∷◌, ◌++◌, length, get_or, take, drop, refl, sym, ap, ◌∙◌, arith}
use Rattle.std.proofs.lemmas.List.{take-append-drop, take-take, drop-drop, drop-take, drop_all, drop_more, length-drop, length-take-le}
use Rattle.std.proofs.Math.Nat.{mul-le-mul_left}
use Rattle.std.specs.List.{flat_map, range_with_len}
use Rattle.std.specs.Simd.Lanes.{chunk, digits_l, number_l}
use Rattle.base.specs.Shapes.{texel_bytes}
use Rattle.base.specs.Texels.{modulus, texel_at, low_bytes, band}
use Rattle.base.specs.declared.shape.Texel.{Texel}
use Rattle.base.specs.declared.shape.Texel.TheVariants.{R8, R32}
use Rattle.kernel.proofs.Numbers.{AreBytes}
use Rattle.kernel.proofs.Rows.{IsImage}

-- a list of pieces of one length
pieces : (c : ℕ) (h : ℕ → List ℕ) (n a : ℕ) (xs : List ℕ) → length xs ≡ c * n → ((i : ℕ) → i < n → chunk (c * i) c xs ≡ h (a + i)) → xs ≡ flat_map h (range_with_len a n)
pieces c h zero a xs len each = drop_all 0 xs (omega (arith, len))
pieces c h (suc n) a xs len each =
    let first : take c xs ≡ h a =
    let zero_times : c * 0 ≡ 0 = omega arith in
    let none_added : a + 0 ≡ a = omega arith in
    rw (zero_times, none_added) at (each 0 (omega arith)) in
    let others : drop c xs ≡ flat_map h (range_with_len (a + 1) n) =
    pieces c h n (a + 1) (drop c xs) (length-drop c xs ∙ omega (arith, len)) (λ i lt.
    ap (take c) (drop-drop (c * i) c xs)
    ∙ ap (λ k. chunk k c xs) (omega arith)
    ∙ each (suc i) (omega arith)
    ∙ ap h (omega arith)) in
    sym (take-append-drop c xs) ∙ ap (λ l. l ++ drop c xs) first ∙ ap (λ l. h a ++ l) others

-- bytes, and the number that they hold
digits_back : (n k : ℕ) (xs : List ℕ) → AreBytes xs → k + n ≤ length xs → digits_l 256 n (number_l 256 (take n (drop k xs))) ≡ take n (drop k xs)
digits_back zero k xs bytes fits = refl
digits_back (suc n) k xs bytes fits =
    let b = get_or xs k 0 in
    let rest = drop (k + 1) xs in
    let m = number_l 256 (take n rest) in
    let small : b < 256 = (bytes k).fits in
    let low : (b + 256 * m) % 256 ≡ b = omega arith in
    let high : (b + 256 * m) / 256 ≡ m = omega arith in
    let split : drop k xs ≡ b ∷ rest = drop_more xs k 0 (omega arith) in
    rw (split, low, high) (ap (λ l. b ∷ l) (digits_back n (k + 1) xs bytes (omega arith)))

piece_is : (t : Texel) (i : ℕ) (xs : List ℕ) → AreBytes xs → texel_bytes t * i + texel_bytes t ≤ length xs → chunk (texel_bytes t * i) (texel_bytes t) xs ≡ low_bytes t (texel_at t xs i)
unfolding low_bytes texel_at
piece_is t i xs bytes fits = sym (digits_back (texel_bytes t) (texel_bytes t * i) xs bytes fits)

-- what is cut off does not count
pub low_same : (t : Texel) (m n : ℕ) → m % modulus t ≡ n % modulus t → low_bytes t m ≡ low_bytes t n
unfolding low_bytes
low_same R8 m n e = ap (λ d. d ∷ []) e
low_same R32 m n e =
    let a : m % 256 ≡ n % 256 = omega arith in
    let b : m / 256 % 256 ≡ n / 256 % 256 = omega arith in
    let c : m / 256 / 256 % 256 ≡ n / 256 / 256 % 256 = omega arith in
    let d : m / 256 / 256 / 256 % 256 ≡ n / 256 / 256 / 256 % 256 = omega arith in
    rw (a, b, c, d) refl

-- a piece of a piece
pub inner : (k m i b : ℕ) (xs : List ℕ) → i + b ≤ m → chunk i b (chunk k m xs) ≡ chunk (k + i) b xs
inner k m i b xs le =
    let whole : m ≡ i + (m - i) = omega arith in
    ap (λ n. chunk i b (chunk k n xs)) whole
    ∙ ap (take b) (drop-take i (m - i) (drop k xs))
    ∙ take-take b (m - i) (drop i (drop k xs)) (omega arith)
    ∙ ap (take b) (drop-drop i k xs)

-- a number that holds what is kept of another
low_kept : (t : Texel) (m n : ℕ) → m ≡ n % modulus t → low_bytes t m ≡ low_bytes t n
low_kept R8 m n e = low_same R8 m n (omega arith)
low_kept R32 m n e = low_same R32 m n (omega arith)

row_from : (t : Texel) (w count y : ℕ) (g : ℕ → ℕ) (xs : List ℕ) → AreBytes xs → length xs ≡ texel_bytes t * (w * count) → y < count
    → ((x : ℕ) → x < w → texel_at t xs (y * w + x) ≡ g x % modulus t)
    → chunk (texel_bytes t * w * y) (texel_bytes t * w) xs ≡ flat_map (λ x. low_bytes t (g x)) (range_with_len 0 w)
row_from t w count y g xs bytes len within row =
    let b = texel_bytes t in
    let end : b * w * y + b * w ≤ b * (w * count) =
    let m : (y + 1) * w ≤ count * w = grind arith in
    let n : b * ((y + 1) * w) ≤ b * (count * w) = mul-le-mul_left b m in
    omega (arith, n) in
    let long : length (chunk (b * w * y) (b * w) xs) ≡ b * w =
    length-take-le (b * w) (drop (b * w * y) xs) (omega (arith, length-drop (b * w * y) xs)) in
    pieces b (λ x. low_bytes t (g x)) w 0 (chunk (b * w * y) (b * w) xs) long (λ x lt.
    let place = y * w + x in
    let inside : b * x + b ≤ b * w =
    let n : b * (x + 1) ≤ b * w = mul-le-mul_left b (omega arith) in
    omega (arith, n) in
    let fits : b * place + b ≤ length xs = omega arith in
    let start : b * w * y + b * x ≡ b * place = omega arith in
    inner (b * w * y) (b * w) (b * x) b xs inside
    ∙ ap (λ k. chunk k b xs) start
    ∙ piece_is t place xs bytes fits
    ∙ low_kept t (texel_at t xs place) (g x) (row x lt)
    ∙ ap (λ k. low_bytes t (g k)) (omega arith))

pub band_from : (t : Texel) (w first count : ℕ) (f : ℕ → ℕ → ℕ) (xs : List ℕ) → AreBytes xs → length xs ≡ texel_bytes t * (w * count)
    → IsImage (texel_at t xs) w count (λ x y. f x (first + y) % modulus t) → xs ≡ band t w first count f
unfolding band
band_from t w first count f xs bytes len image =
    pieces (texel_bytes t * w) (λ y. flat_map (λ x. low_bytes t (f x y)) (range_with_len 0 w)) count first xs (omega (arith, len)) (λ y lt.
    row_from t w count y (λ x. f x (first + y)) xs bytes len lt (λ x in_row. image x y in_row lt))
