use Rattle.std.proofs.Common.{rules, ◌≡◌, ℕ, List, ◌++◌, arith, ap, ◌∙◌}
use Rattle.kernel_simd.proofs.strips.paint_copy.Goals as goal

pub returns-clause-bytes : goal.returns-clause-bytes
returns-clause-bytes g c p paints =
    let old = c.args.memory.now.items in
    let painted = c.f.new.arg4 in
    let copied : c.extend_from_slice-copied.new.self.items ≡ old ++ painted = search rules in
    copied ∙ ap (λ (l : List ℕ). old ++ l) (paints c.args.first c.args.count _ _ (omega arith, omega arith, c.requires.paper) c.f.ensures)
