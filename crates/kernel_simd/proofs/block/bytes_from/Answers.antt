use Rattle.std.proofs.Common.{◌∙◌, ap, ℕ, List, get_or, arith}
use Rattle.std.proofs.lemmas.List.{get_or-drop, length-drop, take_all}
use Rattle.std.proofs.lemmas.Simd.{get_or-chunk}
use Rattle.kernel_simd.proofs.block.bytes_from.Goals as goal
use Rattle.kernel_simd.proofs.block.bytes_from.Goals.{then-is_last, else-is_last}

pub returns : goal.returns
returns c k lt =
    elim c.if-is_last.branch [
      | then-is_last w ↦ rw w.result-is (w.padded.ensures k lt ∙ ap (λ (l : List ℕ). get_or l k 0) (take_all _ _ (omega (arith, length-drop c.args.at c.args.bytes.now))) ∙ get_or-drop c.args.at c.args.bytes.now k 0)
      | else-is_last w ↦ rw w.result-is (get_or-chunk c.args.at 32 c.args.bytes.now k 0 lt)
    ]
