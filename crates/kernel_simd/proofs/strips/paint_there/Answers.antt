use Rattle.std.proofs.Common.{rules, ◌≡◌, ℕ, ◌-◌, ◌*◌, List, ◌++◌, length, replicate, arith, ap, ◌∙◌}
use Rattle.std.proofs.lemmas.List.{length-replicate}
use Rattle.kernel_simd.proofs.Ends.{end_long, new_end}
use Rattle.kernel_simd.proofs.strips.paint_there.Goals as goal

pub returns-clause-bytes : goal.returns-clause-bytes
returns-clause-bytes g c p paints =
    let start = c.len-start.result in
    let more = c.size_of.result * (c.args.width * c.args.count) in
    let old = c.args.memory.now.items in
    let zeros : List ℕ = replicate more 0 in
    let all = c.deref_mut.result.now in
    let painted = c.f.new.arg4 in
    let starts : start ≡ length old = search rules in
    let is : all ≡ old ++ zeros = c.deref_mut.ensures.value ∙ c.grow.ensures.items in
    let size : length painted ≡ length all - start = search rules in
    let number : c.grow.new.memory.len ≡ length all = search rules in
    let rows = end_long start old zeros all is starts ∙ length-replicate {A = ℕ} more 0 ∙ ap (λ (b : ℕ). b * (c.args.width * c.args.count)) c.size_of.ensures in
    new_end start c.grow.new.memory.len old zeros all painted _ is starts number size
    ∙ ap (λ (l : List ℕ). old ++ l) (paints c.args.first c.args.count _ _ (omega arith, omega arith, rows) c.f.ensures)
