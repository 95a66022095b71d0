-- Texts one after another.
use Rattle.std.proofs.Common.{◌≡◌, ◌+◌, ◌++◌, ◌∙◌, ℕ, List, add-one, ap₂, append_assoc}
use Rattle.compile_file.specs.Exports.{in_turn}

-- one text more
pub one_more : (text : ℕ → List ℕ) (k : ℕ) (before so_far new grown : List ℕ) → so_far ≡ before ++ in_turn text k → new ≡ text k → grown ≡ so_far ++ new → grown ≡ before ++ in_turn text (k + 1)
one_more text k before so_far new grown was is adds =
    rw add-one (adds ∙ (ap₂ (λ (t b : List ℕ). t ++ b) was is ∙ append_assoc before (in_turn text k) (text k)))
