use Rattle.std.proofs.Common.{rules, ◌≡◌, ℕ, List, length, refl, ap, ◌∙◌}
use Rattle.base.specs.Applied.{begun}
use Rattle.base.specs.Kernels.{drawn}
use Rattle.base.specs.Texels.{canvas_of, painted, picture}
use Rattle.kernel_simd.proofs.Drawn.{drawn_alike}
use Rattle.kernel_simd.proofs.Ends.{new_all}
use Rattle.kernel_simd.proofs.draw.draw_over.Goals as goal

pub returns-clause-bytes : goal.returns-clause-bytes
returns-clause-bytes g c =
    let grid = canvas_of c.args.to in
    let before = c.cleared-bytes.result.items in
    let size : length c.draw.new.out ≡ length before = search rules in
    new_all (length before) before c.draw.new.out size refl
    ∙ c.draw.ensures
    ∙ ap (λ (bytes : List ℕ). painted grid (drawn grid.texel c.args.rects.now (picture grid bytes))) c.as_mut_slice.ensures.value
    ∙ drawn_alike grid c.args.rects.now (picture grid before) (begun grid c.args.clear_to c.args.out) c.cleared-bytes.ensures.same
