-- Bands of rows, put together of rows and of other bands.
use Rattle.std.proofs.Common.{◌≡◌, ℕ, suc, ◌+◌, ◌-◌, ◌*◌, ◌/◌, ◌%◌, ◌^◌, ◌<◌, ◌≤◌, List, [], ◌++◌, length, get_or, take, drop, arith, refl, sym, ap, ◌∙◌}
use Rattle.std.specs.List.{flat_map, range_with_len}
use Rattle.std.proofs.lemmas.Grind.{flat_map-append}
use Rattle.std.proofs.lemmas.List.{get_or-take, get_or-drop}
use Rattle.std.proofs.Math.Nat.{mul-le-mul_left, mul-le-mul_right, div-mul-le_self}
use Rattle.rayon.specs.Shown.{run-append}
use Rattle.base.specs.Shapes.{texel_bytes}
use Rattle.base.specs.Texels.{texel_at, low_bytes, modulus, band}
use Rattle.base.specs.declared.shape.Texel.{Texel}
use Rattle.base.specs.declared.shape.Texel.TheVariants.{R8, R32}
use Rattle.kernel.proofs.Numbers.{AreBytes}
use Rattle.kernel.proofs.Pieces.{band_from}
use Rattle.kernel.proofs.Rows.{place_within}
use Rattle.kernel_simd.specs.Internal.Blocks.{AreTexels}
use Rattle.kernel_simd.proofs.Blocks.{same_texel}

-- a band below another
pub band_join : (t : Texel) (w first m n : ℕ) (f : ℕ → ℕ → ℕ) → band t w first (m + n) f ≡ band t w first m f ++ band t w (first + m) n f
unfolding band
band_join t w first m n f =
    let line = λ (y : ℕ). flat_map (λ x. low_bytes t (f x y)) (range_with_len 0 w) in
    ap (λ l. flat_map line l) (sym (run-append first m n)) ∙ flat_map-append line (range_with_len first m) (range_with_len (first + m) n)

-- no rows
pub no_rows : (t : Texel) (w first n : ℕ) (f : ℕ → ℕ → ℕ) → n ≡ 0 → [] ≡ band t w first n f
unfolding band
no_rows t w first n f none = rw none refl

-- bands from the first row on
pub bands_on : (t : Texel) (w m n all : ℕ) (f : ℕ → ℕ → ℕ) → m + n ≡ all → band t w 0 m f ++ band t w m n f ≡ band t w 0 all f
bands_on t w m n all f sum =
    let start : m ≡ 0 + m = omega arith in
    ap (λ (k : ℕ). band t w 0 m f ++ band t w k n f) start
    ∙ sym (band_join t w 0 m n f)
    ∙ ap (λ (k : ℕ). band t w 0 k f) sum

-- so many rows after others fit where all rows do
pub rows_within : (b w first count height len cap : ℕ) → first + count ≤ height → len ≡ b * (w * first) → b * (w * height) ≤ cap → len + b * (w * count) ≤ cap
rows_within b w first count height len cap within long room =
    let both : b * (w * (first + count)) ≡ b * (w * first) + b * (w * count) = omega arith in
    let most : b * (w * (first + count)) ≤ b * (w * height) = mul-le-mul_left b (mul-le-mul_left w within) in
    omega (arith, both, most, long, room)

-- and have so many bytes with them
pub rows_long : (b w first count all len more : ℕ) → first + count ≡ all → len ≡ b * (w * first) → more ≡ len + b * (w * count) → more ≡ b * (w * all)
rows_long b w first count all len more sum long is =
    let both : b * (w * (first + count)) ≡ b * (w * first) + b * (w * count) = omega arith in
    omega (arith, both, long, is) ∙ ap (λ (n : ℕ). b * (w * n)) sum

-- a strip of r rows, among those that h rows are cut into
pub strip_within : (k h r : ℕ) → k < h / r → k * r + r ≤ h
strip_within k h r within =
    let most : suc k * r ≤ h / r * r = mul-le-mul_right r within in
    let one : suc k * r ≡ k * r + r = omega arith in
    omega (arith, most, one, div-mul-le_self h r)

-- how many bytes the lower part has
pub rest_len : (b w count top n : ℕ) → top ≤ count → n + b * (w * top) ≡ b * (w * count) → n ≡ b * (w * (count - top))
rest_len b w count top n le e =
    let d = count - top in
    let whole : top + d ≡ count = omega arith in
    let both : b * (w * (top + d)) ≡ b * (w * top) + b * (w * d) = omega arith in
    let cut : b * (w * (top + d)) ≡ b * (w * count) = ap (λ (k : ℕ). b * (w * k)) whole in
    omega (arith, e, both, cut)

-- so many texels are in so many bytes
pub texels_in : (t : Texel) (n : ℕ) → texel_bytes t * n / texel_bytes t ≡ n
texels_in R8 n = omega arith
texels_in R32 n = omega arith

-- texels one after another, row by row
pub rows_from : (t : Texel) (w first count n : ℕ) (p : ℕ → ℕ) (f : ℕ → ℕ → ℕ) (out : List ℕ) → AreBytes out → length out ≡ n → n ≡ texel_bytes t * (w * count)
    → AreTexels t out (n / texel_bytes t) p
    → ((x y : ℕ) → x < w → y < count → p (y * w + x) % modulus t ≡ f x (first + y) % modulus t)
    → out ≡ band t w first count f
rows_from t w first count n p f out bytes long size texels same =
    let number : n / texel_bytes t ≡ w * count = ap (λ (k : ℕ). k / texel_bytes t) size ∙ texels_in t (w * count) in
    band_from t w first count f out bytes (long ∙ size) (λ x y hx hy.
    texels (y * w + x) (rw number (place_within w count y x hx hy)) ∙ same x y hx hy)

-- the bytes of some rows
pub rows_end : (b w first count height n : ℕ) → first + count ≤ height → n ≡ b * (w * height) → b * w * first + b * w * count ≤ n
rows_end b w first count height n within e =
    let m : b * w * (first + count) ≤ b * w * height = mul-le-mul_left (b * w) within in
    omega (arith, m, e)

last_byte : (t : Texel) (w count x y r : ℕ) → x < w → y < count → r < texel_bytes t → texel_bytes t * (y * w + x) + r < texel_bytes t * w * count
last_byte R8 w count x y r hx hy hr = let m = place_within w count y x hx hy in omega (arith, m)
last_byte R32 w count x y r hx hy hr = let m = place_within w count y x hx hy in omega (arith, m)

rows_texel : (t : Texel) (w first count x y : ℕ) (src : List ℕ) → x < w → y < count → texel_at t (take (texel_bytes t * w * count) (drop (texel_bytes t * w * first) src)) (y * w + x) ≡ texel_at t src ((first + y) * w + x)
rows_texel t w first count x y src hx hy =
    let b = texel_bytes t in
    let n = b * w * count in
    same_texel t (take n (drop (b * w * first) src)) src (y * w + x) ((first + y) * w + x) (λ r hr.
    let place : b * w * first + (b * (y * w + x) + r) ≡ b * ((first + y) * w + x) + r = omega arith in
    get_or-take n (drop (b * w * first) src) (b * (y * w + x) + r) 0 (last_byte t w count x y r hx hy hr)
    ∙ get_or-drop (b * w * first) src (b * (y * w + x) + r) 0
    ∙ ap (λ (k : ℕ). get_or src k 0) place)

-- a texel of them
pub texel_of_rows : (t : Texel) (b w first count x y n : ℕ) (src : List ℕ) → b ≡ texel_bytes t → n ≡ b * w * count → x < w → y < count → texel_at t (take n (drop (b * w * first) src)) (y * w + x) ≡ texel_at t src ((first + y) * w + x)
texel_of_rows t b w first count x y n src size long hx hy = rw (long, size) (rows_texel t w first count x y src hx hy)

-- a number of a row that rises, from a start that wrapped
pub risen : (t : Texel) (base dx dy w x y r : ℕ) → r < 1 → ((base + y * dy % 2 ^ 32) % 2 ^ 32 + (r * w + x) * dx) % modulus t ≡ (base + x * dx + (y + r) * dy) % modulus t
risen R8 base dx dy w x y r h = let e : r ≡ 0 = omega arith in rw e (omega arith)
risen R32 base dx dy w x y r h = let e : r ≡ 0 = omega arith in rw e (omega arith)
