-- Bands of pictures: what is painted is read back, what is alike is painted alike, and rows are painted one after another.
use Rattle.std.proofs.Common.{◌≡◌, ℕ, zero, suc, ◌+◌, ◌*◌, ◌%◌, ◌<◌, ◌≤◌, List, [], ◌++◌, length, take, refl, sym, ap, ◌∙◌, append_assoc, arith, zero-add}
use Rattle.std.proofs.lemmas.List.{drop_at, take_at, drop-drop, length-append}
use Rattle.std.proofs.Math.Nat.{mul-le-mul_left}
use Rattle.std.specs.List.{flat_map, range_with_len}
use Rattle.std.specs.Simd.Lanes.{chunk, number_l}
use Rattle.base.specs.Shapes.{texel_bytes}
use Rattle.base.specs.Texels.{modulus, texel_at, low_bytes, band, painted, picture}
use Rattle.base.specs.declared.grid.Grid.{Grid}
use Rattle.base.specs.declared.shape.Texel.{Texel}
use Rattle.base.specs.declared.shape.Texel.TheVariants.{R8, R32}
use Rattle.kernel.proofs.Numbers.{AreBytes, whole_texel}
use Rattle.kernel.proofs.Pieces.{band_from, low_same, inner}
use Rattle.kernel.specs.Bands.{HasRows}

-- pieces that are the same
same_pieces : (h k : ℕ → List ℕ) (n a : ℕ) → ((i : ℕ) → i < n → h (a + i) ≡ k (a + i)) → flat_map h (range_with_len a n) ≡ flat_map k (range_with_len a n)
same_pieces h k zero a each = refl
same_pieces h k (suc n) a each =
    let first : h a ≡ k a = let z : a + 0 ≡ a = omega arith in rw z at (each 0 (omega arith)) in
    let others : flat_map h (range_with_len (a + 1) n) ≡ flat_map k (range_with_len (a + 1) n) =
    same_pieces h k n (a + 1) (λ i lt. let e : a + 1 + i ≡ a + suc i = omega arith in rw e (each (suc i) (omega arith))) in
    rw (first, others) refl

pub same_band : (t : Texel) (w first count : ℕ) (f g : ℕ → ℕ → ℕ) → ((x y : ℕ) → x < w → y < count → f x (first + y) % modulus t ≡ g x (first + y) % modulus t) → band t w first count f ≡ band t w first count g
unfolding band
same_band t w first count f g alike =
    same_pieces (λ y. flat_map (λ x. low_bytes t (f x y)) (range_with_len 0 w)) (λ y. flat_map (λ x. low_bytes t (g x y)) (range_with_len 0 w)) count first (λ y hy.
    same_pieces (λ x. low_bytes t (f x (first + y))) (λ x. low_bytes t (g x (first + y))) w 0 (λ x hx.
    let z : 0 + x ≡ x = omega arith in
    rw z (low_same t (f x (first + y)) (g x (first + y)) (alike x y hx hy))))

pieces_more : (h : ℕ → List ℕ) (n a : ℕ) → flat_map h (range_with_len a (suc n)) ≡ flat_map h (range_with_len a n) ++ flat_map h (range_with_len (a + n) 1)
pieces_more h zero a = let z : a + 0 ≡ a = omega arith in rw z refl
pieces_more h (suc n) a =
    let s : a + 1 + n ≡ a + suc n = omega arith in
    ap (λ l. h a ++ l) (rw s at (pieces_more h n (a + 1)))
    ∙ sym (append_assoc (h a) (flat_map h (range_with_len (a + 1) n)) (flat_map h (range_with_len (a + suc n) 1)))

-- one more row
pub band_more : (t : Texel) (w first n : ℕ) (f : ℕ → ℕ → ℕ) → band t w first (n + 1) f ≡ band t w first n f ++ band t w (first + n) 1 f
unfolding band
band_more t w first n f =
    let e : n + 1 ≡ suc n = omega arith in
    rw e (pieces_more (λ y. flat_map (λ x. low_bytes t (f x y)) (range_with_len 0 w)) n first)

pub band_none : (t : Texel) (w first : ℕ) (f : ℕ → ℕ → ℕ) → band t w first 0 f ≡ []
unfolding band
band_none t w first f = refl

-- the bytes of a picture are painted by it
pub painted_back : (g : Grid) (bytes : List ℕ) → AreBytes bytes → HasRows g g.height bytes → bytes ≡ painted g (picture g bytes)
painted_back g bytes fit len =
    band_from g.texel g.width 0 g.height (picture g bytes) bytes fit len (λ x y hx hy.
    let z : 0 + y ≡ y = omega arith in
    rw z (whole_texel g.texel bytes (y * g.width + x) fit))

length_low : (t : Texel) (n : ℕ) → length (low_bytes t n) ≡ texel_bytes t
unfolding low_bytes
length_low R8 n = refl
length_low R32 n = refl

length_pieces : (c : ℕ) (h : ℕ → List ℕ) (n a : ℕ) → ((k : ℕ) → length (h k) ≡ c) → length (flat_map h (range_with_len a n)) ≡ c * n
length_pieces c h zero a each = sym (omega arith)
length_pieces c h (suc n) a each = length-append (h a) (flat_map h (range_with_len (a + 1) n)) ∙ omega (arith, each a, length_pieces c h n (a + 1) each)

-- one piece of equal ones
nth_piece : (c : ℕ) (h : ℕ → List ℕ) (n a i : ℕ) → ((k : ℕ) → length (h k) ≡ c) → i < n → chunk (c * i) c (flat_map h (range_with_len a n)) ≡ h (a + i)
nth_piece c h zero a i each lt = absurd (omega arith)
nth_piece c h (suc n) a zero each lt =
    let z : c * 0 ≡ 0 = omega arith in
    let s : a + 0 ≡ a = omega arith in
    rw (z, s) (take_at (h a) (flat_map h (range_with_len (a + 1) n)) c (each a))
nth_piece c h (suc n) a (suc i) each lt =
    let z : c * suc i ≡ c + c * i = omega arith in
    let s : a + 1 + i ≡ a + suc i = omega arith in
    ap (λ k. chunk k c (h a ++ flat_map h (range_with_len (a + 1) n))) z
    ∙ ap (take c) (sym (drop-drop (c * i) c (h a ++ flat_map h (range_with_len (a + 1) n))))
    ∙ ap (λ l. chunk (c * i) c l) (drop_at (h a) (flat_map h (range_with_len (a + 1) n)) c (each a))
    ∙ nth_piece c h n (a + 1) i each (omega arith)
    ∙ ap h s

read_back : (t : Texel) (n : ℕ) → number_l 256 (low_bytes t n) ≡ n % modulus t
unfolding low_bytes
read_back R8 n = omega arith
read_back R32 n = omega arith

pub picture_painted : (g : Grid) (f : ℕ → ℕ → ℕ) (x y : ℕ) → x < g.width → y < g.height → picture g (painted g f) x y ≡ f x y % modulus g.texel
unfolding texel_at band
picture_painted g f x y hx hy =
    let b = texel_bytes g.texel in
    let w = g.width in
    let line = λ (r : ℕ). flat_map (λ c. low_bytes g.texel (f c r)) (range_with_len 0 w) in
    let long : (r : ℕ) → length (line r) ≡ b * w = λ r. length_pieces b (λ c. low_bytes g.texel (f c r)) w 0 (λ k. length_low g.texel (f k r)) in
    let inside : b * x + b ≤ b * w =
    let n : b * (x + 1) ≤ b * w = mul-le-mul_left b (omega arith) in
    omega (arith, n) in
    let start : b * (y * w + x) ≡ b * w * y + b * x = omega arith in
    let all = flat_map line (range_with_len 0 g.height) in
    ap (number_l 256) (ap (λ k. chunk k b all) start
    ∙ sym (inner (b * w * y) (b * w) (b * x) b all inside)
    ∙ ap (λ l. chunk (b * x) b l) (nth_piece (b * w) line g.height 0 y long hy)
    ∙ nth_piece b (λ c. low_bytes g.texel (f c (0 + y))) w 0 x (λ k. length_low g.texel (f k (0 + y))) hx)
    ∙ read_back g.texel (f (0 + x) (0 + y))
    ∙ ap (λ n. n % modulus g.texel) (ap (λ c. f c (0 + y)) (zero-add x) ∙ ap (f x) (zero-add y))
