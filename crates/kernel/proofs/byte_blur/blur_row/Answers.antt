use Rattle.std.proofs.Common.{◌≡◌, ℕ, ◌+◌, ◌/◌, ◌%◌, ◌<◌, ◌∙◌, slice_index, ap, arith}
use Rattle.base.specs.Kernels.{three, box3}
use Rattle.base.specs.Texels.{picture}
use Rattle.base.specs.declared.shape.Texel.TheVariants.{R8}
use Rattle.kernel.proofs.Pictures.{same_band}
use Rattle.kernel.proofs.byte_blur.blur_row.Goals as goal

three_same : (n k : ℕ) (f g : ℕ → ℕ) → k < n → ((j : ℕ) → j < n → f j ≡ g j) → three n f k ≡ three n g k
unfolding three
three_same n k f g within same = omega (arith, same)

-- the mean is that of the columns' sums
by_columns : (w h : ℕ) (f : ℕ → ℕ → ℕ) (x y : ℕ) → three w (λ column. three h (f column) y) x / 9 ≡ box3 w h f x y
unfolding three box3
by_columns w h f x y = ap (λ n. n / 9) (omega arith)

pub returns : goal.returns
returns c =
    let g = c.args.grid in
    let f = picture g c.args.src.now in
    let sums = c.sum_columns.new.sums in
    c.paint_means.ensures
    ∙ same_band R8 g.width c.args.y 1 (λ x row. three g.width (slice_index sums) x / 9) (box3 g.width g.height f) (λ x row hx hrow.
    let e : c.args.y + row ≡ c.args.y = omega arith in
    let sum = three_same g.width x (slice_index sums) (λ column. three g.height (f column) c.args.y) hx c.sum_columns.ensures.columns in
    rw e (ap (λ n. n / 9 % 256) sum ∙ ap (λ n. n % 256) (by_columns g.width g.height f x c.args.y)))
