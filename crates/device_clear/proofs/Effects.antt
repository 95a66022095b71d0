-- What operations over images of one number leave, and draws that leave one.
use Rattle.std.proofs.Common.{◌≡◌, ℕ, ◌+◌, ◌-◌, ◌*◌, ◌%◌, ◌<◌, min, true, List, [], ◌∷◌, Option, Some, refl, sym, ap, ◌∙◌, subst, arith}
use Rattle.std.specs.Prelude.{◌&&◌}
use Rattle.std.proofs.lemmas.Nat.{and_comm, or_comm, xor_comm}
use Rattle.std.proofs.Math.Nat.{mul_comm, min_comm, max_comm}
use Rattle.base.specs.Applied.{applied, begun, effect}
use Rattle.base.specs.Kernels.{fun_of, three, box3, halved, under, drawn}
use Rattle.base.specs.Shapes.{same_sides, same_texel, shape_at, twice_the_sides}
use Rattle.base.specs.Texels.{canvas_of, modulus, painted, picture}
use Rattle.base.specs.declared.grid.Grid.{Grid}
use Rattle.base.specs.declared.op.Fun.{Fun}
use Rattle.base.specs.declared.op.Fun.TheVariants as funs
use Rattle.base.specs.declared.op.Op.TheVariants.{Map, Combine, Convert, Box3, Halve, Draw}
use Rattle.base.specs.declared.op.Rect.{Rect}
use Rattle.base.specs.declared.shape.Shape.{Shape}
use Rattle.base.specs.declared.shape.Texel.{Texel}
use Rattle.base.specs.declared.shape.Texel.TheVariants.{R8, R32}
use Rattle.device_clear.specs.Internal.Words.{commutes}
use Rattle.kernel.proofs.Fitting.{one_size, twice}
use Rattle.kernel.proofs.Moduli.{cut_twice}
use Rattle.kernel.proofs.Pictures.{same_band, picture_painted}

-- a texel of an image of one number
one_at : (g : Grid) (bytes : List ℕ) (value x y : ℕ) → bytes ≡ painted g (λ x y. value) → x < g.width → y < g.height → picture g bytes x y ≡ value % modulus g.texel
one_at g bytes value x y is hx hy = ap (λ (l : List ℕ). picture g l x y) is ∙ picture_painted g (λ x y. value) x y hx hy

pub map_of_one : (from to : Shape) (fun : Fun) (value own number : ℕ) (src : List ℕ) → src ≡ painted (canvas_of to) (λ x y. own)
    → number % modulus (canvas_of to).texel ≡ fun_of (canvas_of to).texel fun (own % modulus (canvas_of to).texel) (value % modulus (canvas_of to).texel) % modulus (canvas_of to).texel
    → painted (canvas_of to) (λ x y. number) ≡ effect (Map from to fun value) src [] [] []
map_of_one from to fun value own number src is at =
    let g = canvas_of to in
    let m = modulus g.texel in
    same_band g.texel g.width 0 g.height (λ x y. number) (λ x y. fun_of g.texel fun (picture g src x y) (value % m)) (λ x y hx hy.
    at ∙ ap (λ (n : ℕ). fun_of g.texel fun n (value % m) % m) (sym (one_at g src own x (0 + y) is hx (omega arith))))

pub combination_of_two : (one two to : Shape) (fun : Fun) (first second number : ℕ) (a b : List ℕ) → a ≡ painted (canvas_of to) (λ x y. first) → b ≡ painted (canvas_of to) (λ x y. second)
    → number % modulus (canvas_of to).texel ≡ fun_of (canvas_of to).texel fun (first % modulus (canvas_of to).texel) (second % modulus (canvas_of to).texel) % modulus (canvas_of to).texel
    → painted (canvas_of to) (λ x y. number) ≡ effect (Combine one two to fun) a b [] []
combination_of_two one two to fun first second number a b is_a is_b at =
    let g = canvas_of to in
    let m = modulus g.texel in
    same_band g.texel g.width 0 g.height (λ x y. number) (λ x y. fun_of g.texel fun (picture g a x y) (picture g b x y)) (λ x y hx hy.
    at
    ∙ ap (λ (n : ℕ). fun_of g.texel fun n (second % m) % m) (sym (one_at g a first x (0 + y) is_a hx (omega arith)))
    ∙ ap (λ (n : ℕ). fun_of g.texel fun (picture g a x (0 + y)) n % m) (sym (one_at g b second x (0 + y) is_b hx (omega arith))))

pub combination_with_one : (one two to : Shape) (fun : Fun) (value : ℕ) (a b : List ℕ) → b ≡ painted (canvas_of to) (λ x y. value) → effect (Map one to fun value) a [] [] [] ≡ effect (Combine one two to fun) a b [] []
combination_with_one one two to fun value a b is =
    let g = canvas_of to in
    let m = modulus g.texel in
    same_band g.texel g.width 0 g.height (λ x y. fun_of g.texel fun (picture g a x y) (value % m)) (λ x y. fun_of g.texel fun (picture g a x y) (picture g b x y)) (λ x y hx hy.
    ap (λ (n : ℕ). fun_of g.texel fun (picture g a x (0 + y)) n % m) (sym (one_at g b value x (0 + y) is hx (omega arith))))

swapped : (t : Texel) (fun : Fun) (a b : ℕ) → commutes fun ≡ true → fun_of t fun a b ≡ fun_of t fun b a
swapped t funs.Add a b e = omega arith
swapped t funs.Sub a b e = absurd cc
swapped t funs.Mul a b e = mul_comm a b
swapped t funs.And a b e = and_comm a b
swapped t funs.Or a b e = or_comm a b
swapped t funs.Xor a b e = xor_comm a b
swapped t funs.Min a b e = min_comm a b
swapped t funs.Max a b e = max_comm a b
swapped t funs.Shl a b e = absurd cc
swapped t funs.Shr a b e = absurd cc

pub combination_after_one : (one two to : Shape) (fun : Fun) (value : ℕ) (a b : List ℕ) → commutes fun ≡ true → a ≡ painted (canvas_of to) (λ x y. value) → effect (Map two to fun value) b [] [] [] ≡ effect (Combine one two to fun) a b [] []
combination_after_one one two to fun value a b both is =
    let g = canvas_of to in
    let m = modulus g.texel in
    same_band g.texel g.width 0 g.height (λ x y. fun_of g.texel fun (picture g b x y) (value % m)) (λ x y. fun_of g.texel fun (picture g a x y) (picture g b x y)) (λ x y hx hy.
    ap (λ (n : ℕ). n % m) (swapped g.texel fun (picture g b x (0 + y)) (value % m) both)
    ∙ ap (λ (n : ℕ). fun_of g.texel fun n (picture g b x (0 + y)) % m) (sym (one_at g a value x (0 + y) is hx (omega arith))))

uncut : (t : Texel) (n : ℕ) → n < modulus t → n % modulus t ≡ n
uncut R8 n small = omega (arith, small)
uncut R32 n small = omega (arith, small)

-- an image of one number, read back
abbrev pub IsOf : Grid → List ℕ → ℕ → Type 0
IsOf g bytes value = (x y : ℕ) → x < g.width → y < g.height → picture g bytes x y ≡ value

pub read_back : (g : Grid) (bytes : List ℕ) (value : ℕ) → bytes ≡ painted g (λ x y. value) → value < modulus g.texel → IsOf g bytes value
read_back g bytes value is small x y hx hy = one_at g bytes value x y is hx hy ∙ uncut g.texel value small

pub conversion_of_one : (from to : Shape) (value : ℕ) (src : List ℕ) → same_sides from to ≡ true → IsOf (canvas_of from) src value → painted (canvas_of to) (λ x y. value) ≡ effect (Convert from to) src [] [] []
conversion_of_one from to value src fit of =
    let g = canvas_of to in
    let sizes = one_size from to fit in
    same_band g.texel g.width 0 g.height (λ x y. value) (picture (canvas_of from) src) (λ x y hx hy.
    ap (λ (n : ℕ). n % modulus g.texel) (sym (of x (0 + y) (omega (arith, hx, sizes.width)) (omega (arith, hy, sizes.height)))))

three_of_one : (n value k : ℕ) (f : ℕ → ℕ) → k < n → ((j : ℕ) → j < n → f j ≡ value) → three n f k ≡ value + value + value
unfolding three
three_of_one n value k f within of = rw (of (k - 1) (omega (arith, within)), of k within, of (min (k + 1) (n - 1)) (omega (arith, within))) refl

box_of_one : (w h value x y : ℕ) (f : ℕ → ℕ → ℕ) → x < w → y < h → ((i j : ℕ) → i < w → j < h → f i j ≡ value) → box3 w h f x y ≡ value
unfolding box3
box_of_one w h value x y f hx hy of =
    let row = λ (j : ℕ) (hj : j < h). three_of_one w value x (λ i. f i j) hx (λ i hi. of i j hi hj) in
    let all = three_of_one h (value + value + value) y (λ j. three w (λ i. f i j) x) hy row in
    rw all (omega arith)

pub blur_of_one : (from to : Shape) (value : ℕ) (src : List ℕ) → canvas_of from ≡ canvas_of to → IsOf (canvas_of from) src value → painted (canvas_of to) (λ x y. value) ≡ effect (Box3 from to) src [] [] []
blur_of_one from to value src same first =
    let g = canvas_of to in
    let of : IsOf g src value = subst (λ (h : Grid). IsOf h src value) same first in
    same_band g.texel g.width 0 g.height (λ x y. value) (box3 g.width g.height (picture g src)) (λ x y hx hy.
    ap (λ (n : ℕ). n % modulus g.texel) (sym (box_of_one g.width g.height value x (0 + y) (picture g src) hx (omega (arith, hy)) of)))

halved_of_one : (value x y : ℕ) (f : ℕ → ℕ → ℕ) → ((i j : ℕ) → i < 2 * x + 2 → j < 2 * y + 2 → f i j ≡ value) → halved f x y ≡ value
unfolding halved
halved_of_one value x y f of =
    rw (of (2 * x) (2 * y) (omega arith) (omega arith), of (2 * x + 1) (2 * y) (omega arith) (omega arith), of (2 * x) (2 * y + 1) (omega arith) (omega arith), of (2 * x + 1) (2 * y + 1) (omega arith) (omega arith))
    (omega arith)

pub halving_of_one : (from to : Shape) (value : ℕ) (src : List ℕ) → (same_texel from to && twice_the_sides from to) ≡ true → IsOf (canvas_of from) src value → painted (canvas_of to) (λ x y. value) ≡ effect (Halve from to) src [] [] []
halving_of_one from to value src fit of =
    let g = canvas_of to in
    let sizes = twice from to fit in
    same_band g.texel g.width 0 g.height (λ x y. value) (halved (picture (canvas_of from) src)) (λ x y hx hy.
    ap (λ (n : ℕ). n % modulus g.texel) (sym (halved_of_one value x (0 + y) (picture (canvas_of from) src) (λ i j hi hj.
    of i j (omega (arith, hx, hi, sizes.width)) (omega (arith, hy, hj, sizes.height))))))

-- what a draw of one rectangle leaves
pub whole_drawn : (g : Grid) (rect : Rect) (clear : Option ℕ) (old : List ℕ) → ((f : ℕ → ℕ → ℕ) (x y : ℕ) → x < g.width → y < g.height → under g.texel f rect x y ≡ rect.value % modulus g.texel)
    → painted g (λ x y. rect.value) ≡ painted g (drawn g.texel (rect ∷ []) (begun g clear old))
whole_drawn g rect clear old sets =
    same_band g.texel g.width 0 g.height (λ x y. rect.value) (drawn g.texel (rect ∷ []) (begun g clear old)) (λ x y hx hy.
    sym (ap (λ (n : ℕ). n % modulus g.texel) (sets (begun g clear old) x (0 + y) hx (omega (arith, hy))) ∙ cut_twice g.texel rect.value))

-- what a draw of nothing leaves
pub nothing_drawn : (shapes : List Shape) (dst value : ℕ) (loaded : List (List ℕ)) (old : List ℕ) → painted (canvas_of (shape_at shapes dst)) (λ x y. value) ≡ applied shapes (Draw dst (Some value) []) loaded old
nothing_drawn shapes dst value loaded old =
    let g = canvas_of (shape_at shapes dst) in
    same_band g.texel g.width 0 g.height (λ x y. value) (λ x y. value % modulus g.texel) (λ x y hx hy. sym (cut_twice g.texel value))
