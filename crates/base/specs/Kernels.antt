-- What kernels make of the numbers of texels.
use Rattle.std.specs.Prelude.{ℕ, Bool, List, ◌+◌, ◌-◌, ◌*◌, ◌/◌, ◌%◌, ◌^◌, ◌&&◌, min, max, nat_le, nat_lt, bit_and, bit_or, bit_xor, if◌then◌else◌}
use Rattle.std.specs.List.{fold}
use Rattle.base.specs.Texels.{modulus, texel_bits}
use Rattle.base.specs.declared.op.Fun.{Fun}
use Rattle.base.specs.declared.op.Fun.TheVariants as funs
use Rattle.base.specs.declared.op.Mix.{Mix}
use Rattle.base.specs.declared.op.Mix.TheVariants as mixes
use Rattle.base.specs.declared.op.Rect.{Rect}
use Rattle.base.specs.declared.shape.Texel.{Texel}

-- of two numbers below the modulus; what is stored is the result modulo it
abbrev pub fun_of : Texel → Fun → ℕ → ℕ → ℕ
fun_of t funs.Add a b = a + b
fun_of t funs.Sub a b = a + modulus t - b
fun_of t funs.Mul a b = a * b
fun_of t funs.And a b = bit_and a b
fun_of t funs.Or a b = bit_or a b
fun_of t funs.Xor a b = bit_xor a b
fun_of t funs.Min a b = min a b
fun_of t funs.Max a b = max a b
fun_of t funs.Shl a b = a * 2 ^ (b % texel_bits t)
fun_of t funs.Shr a b = a / 2 ^ (b % texel_bits t)

-- the sum over the coordinates k - 1, k and k + 1, each held to 0 .. n - 1, where k itself is there
unfoldable pub three : ℕ → (ℕ → ℕ) → ℕ → ℕ
three n f k = f (k - 1) + f k + f (min (k + 1) (n - 1))

-- the mean of the nine numbers round (x, y), in a picture of these sides
unfoldable pub box3 : ℕ → ℕ → (ℕ → ℕ → ℕ) → ℕ → ℕ → ℕ
box3 width height f x y = three height (λ row. three width (λ column. f column row) x) y / 9

-- the mean of a square of four
unfoldable pub halved : (ℕ → ℕ → ℕ) → ℕ → ℕ → ℕ
halved f x y = (f (2 * x) (2 * y) + f (2 * x + 1) (2 * y) + f (2 * x) (2 * y + 1) + f (2 * x + 1) (2 * y + 1)) / 4

abbrev pub is_inside : ℕ → ℕ → ℕ → ℕ → ℕ → ℕ → Bool
is_inside left top width height x y = nat_le left x && nat_lt x (left + width) && nat_le top y && nat_lt y (top + height)

abbrev pub mixed : Mix → ℕ → ℕ → ℕ
mixed mixes.Set old value = value
mixed mixes.And old value = bit_and old value
mixed mixes.Or old value = bit_or old value
mixed mixes.Xor old value = bit_xor old value

-- a picture under a rectangle
abbrev pub under : Texel → (ℕ → ℕ → ℕ) → Rect → ℕ → ℕ → ℕ
under t f rect x y = if is_inside rect.x rect.y rect.width rect.height x y then mixed rect.mix (f x y) (rect.value % modulus t) else f x y

-- under each rectangle, in their order
abbrev pub drawn : Texel → List Rect → (ℕ → ℕ → ℕ) → ℕ → ℕ → ℕ
drawn t rects f = fold (under t) f rects
