use Rattle.std.proofs.Common.{ℕ, List, ap, ◌∙◌}
use Rattle.base.specs.Texels.{canvas_of, painted, picture}
use Rattle.kernel_simd.proofs.Drawn.{one_number}
use Rattle.kernel_simd.proofs.draw.cleared.Goals as goal

pub returns-in-Some-clause-same : goal.returns-in-Some-clause-same
returns-in-Some-clause-same g c =
    let grid = canvas_of c.args.to in
    rw c.in-Some.is (ap (λ (bytes : List ℕ). painted grid (picture grid bytes)) c.clear.ensures.bytes ∙ one_number grid c.in-Some.value)
