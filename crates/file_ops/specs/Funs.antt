-- The words of the functions of two texels.
use Rattle.std.specs.Prelude.{◌≡◌, refl, ℕ, List, [], ◌∷◌, Option, Some, codes, ⊤}
use Rattle.std.specs.List.{find}
use Rattle.std.specs.Str.{bytes_eq}
use Rattle.base.specs.declared.op.Fun.{Fun}
use Rattle.base.specs.declared.op.Fun.TheVariants as funs

abbrev pub fun_text : Fun → List ℕ
fun_text funs.Add = codes "add"
fun_text funs.Sub = codes "sub"
fun_text funs.Mul = codes "mul"
fun_text funs.And = codes "and"
fun_text funs.Or = codes "or"
fun_text funs.Xor = codes "xor"
fun_text funs.Min = codes "min"
fun_text funs.Max = codes "max"
fun_text funs.Shl = codes "shl"
fun_text funs.Shr = codes "shr"

abbrev pub all_funs : List Fun
all_funs = funs.Add ∷ funs.Sub ∷ funs.Mul ∷ funs.And ∷ funs.Or ∷ funs.Xor ∷ funs.Min ∷ funs.Max ∷ funs.Shl ∷ funs.Shr ∷ []

-- the function with this word
abbrev pub fun_of : List ℕ → Option Fun
fun_of s = find (λ fun. bytes_eq s (fun_text fun)) all_funs

pub fun_again : (x : Fun) → ⊤ → fun_of (fun_text x) ≡ Some x
fun_again funs.Add fits = refl
fun_again funs.Sub fits = refl
fun_again funs.Mul fits = refl
fun_again funs.And fits = refl
fun_again funs.Or fits = refl
fun_again funs.Xor fits = refl
fun_again funs.Min fits = refl
fun_again funs.Max fits = refl
fun_again funs.Shl fits = refl
fun_again funs.Shr fits = refl
