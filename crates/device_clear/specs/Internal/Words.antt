-- Texels of one number as a word again and again, and which functions commute.
use Rattle.std.specs.Prelude.{ℕ, ◌*◌, ◌%◌, Bool, true, false}
use Rattle.base.specs.declared.op.Fun.{Fun}
use Rattle.base.specs.declared.op.Fun.TheVariants as funs
use Rattle.base.specs.declared.shape.Texel.{Texel}
use Rattle.base.specs.declared.shape.Texel.TheVariants.{R8, R32}

-- four texels of a byte, or one of four; 16843009 has 1 in each of its four bytes
abbrev pub word_of : Texel → ℕ → ℕ
word_of R8 value = value % 256 * 16843009
word_of R32 value = value

-- it is all one which of two numbers is the first
abbrev pub commutes : Fun → Bool
commutes funs.Add = true
commutes funs.Sub = false
commutes funs.Mul = true
commutes funs.And = true
commutes funs.Or = true
commutes funs.Xor = true
commutes funs.Min = true
commutes funs.Max = true
commutes funs.Shl = false
commutes funs.Shr = false
