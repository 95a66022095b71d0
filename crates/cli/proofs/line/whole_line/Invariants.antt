use Rattle.std.proofs.Common.{◌≡◌, ◌∷◌, map, string_bytes, codes, take}
use Rattle.cli.proofs.line.whole_line.Given as goal

abbrev pub invariant-loop-word : goal.invariant-loop-word
invariant-loop-word l = map (λ word. word.now) l.line.items ≡ codes "framec" ∷ map string_bytes (take l.word-index l.words)
