-- Where a fault is found, there is no line.
use Rattle.std.proofs.Common.{◌≡◌, [], ◌∷◌, Option, None, refl}
use Rattle.clap.specs.Words.{Kinds}
use Rattle.cli.specs.Lines.{unless_refused}
use Rattle.cli.specs.declared.line.Line.{Line}

pub none_refused : (faults : Kinds) (line : Option Line) → ¬ (faults ≡ []) → unless_refused faults line ≡ None
none_refused [] line some = absurd (some refl)
none_refused (fault ∷ faults) line some = refl
