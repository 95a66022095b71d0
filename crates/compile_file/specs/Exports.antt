-- What is printed of exports.
use Rattle.std.specs.Prelude.{ℕ, zero, suc, List, [], ◌++◌, length}
use Rattle.frame.specs.Numbered.{numbered}
use Rattle.frame.specs.declared.frame.Frame.{Frame}
use Rattle.report.specs.Exports.{export_text}

-- text 0, text 1 and so on, so many of them
abbrev pub in_turn : (ℕ → List ℕ) → ℕ → List ℕ
in_turn text zero = []
in_turn text (suc k) = in_turn text k ++ text k

-- the exports of a frame; export k has the bytes of k
abbrev pub exports_text : Frame → (ℕ → List ℕ) → List ℕ
exports_text frame bytes = in_turn (λ k. export_text frame k (bytes k)) (length (numbered frame).exports)
