use Rattle.std.proofs.Common.{◌≡◌, map, take}
use Rattle.cli.proofs.files.named.Given as goal

abbrev pub invariant-loop-word : goal.invariant-loop-word
invariant-loop-word l = l.files ≡ map (λ word. word.now) (take l.word-index l.words)
